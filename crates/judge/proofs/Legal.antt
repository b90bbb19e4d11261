-- A certificate makes a history legal.
use Rattle.std.proofs.Common.{ℕ, List, reverse}
use Rattle.histories.specs.declared.entry.Entry.{Entry}
use Rattle.histories.specs.declared.entry.HistoryLine.{HistoryLine}
use Rattle.histories.specs.Histories.{LegalHistory}
use Rattle.certificates.specs.Certificates.{IsCertificate, entries, trace_of}

pub legal : (n : ℕ) (history : List HistoryLine) (steps : List Entry) → IsCertificate n history steps → LegalHistory n (reverse (entries history))
legal n history steps c = record { trace = trace_of (reverse steps); doomed = c.doomed; certifies = c.certifies }
