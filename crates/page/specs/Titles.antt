-- What titles tell, and which lines of a history a page shows, in the words of who reads a page.
--
-- *Titles tell the first death.* A title names the thread and the mutex of the first death in the lines that the page
-- shows, and then the thread that gets the mutex first, with its reply. If no line tells a death, it says only what the
-- page is of.
use Rattle.std.specs.Prelude.{ℕ, ◌≡◌, ◌+◌, ◌⊎◌, Option, Some, None, List, [], ◌∷◌, ◌++◌, codes, length, take}
use Rattle.lockword.specs.declared.reply.Reply.TheVariants.{OK, EOWNERDEAD}
use Rattle.lockword.specs.Replies.{reply_word}
use Rattle.posixmutex.specs.declared.point.Decision.{Decision}
use Rattle.posixmutex.specs.declared.point.Operation.TheVariants.{Lock, TryLock, TimedLock}
use Rattle.facts.specs.declared.fact.Fact.TheVariants.{Death, Point}
use Rattle.facts.specs.declared.fact.Line.{Line}
use Rattle.facts.specs.Orders.{Each}
use Rattle.verdict.specs.declared.checking.Finding.{Finding}
use Rattle.verdict.specs.declared.told.Told.{Told}
use Rattle.picture.specs.Names.{Called, mutex_head, mutex_tail, thread_head, thread_tail}
use Rattle.page.specs.declared.frame.TheConstants.{TOP}
use Rattle.page.specs.declared.stories.Source.TheVariants.{Trace, History}
use Rattle.page.specs.Data.{history_shown, lines_shown, misfit_line}
use Rattle.page.specs.Pages.{history_page_text, page_text}
use Rattle.page.specs.Stories.{title_text}

-- ---- deaths and heirs

-- a line tells no owner's death
pub record TellsNoDeath (l : Line) : Type 0 where
  pub never : (t m : ℕ) → l.fact ≡ Death t m → ⊥

-- of these lines the first one that tells a death tells that of thread t, which owned mutex m; these come later
pub record IsFirstDeath (ls : List Line) (t m : ℕ) (later : List Line) : Type 0 where
  pub before : List Line
  pub line : Line
  pub all : ls ≡ before ++ line ∷ later
  pub tells : line.fact ≡ Death t m
  pub none : Each TellsNoDeath before

-- by this point its thread gets mutex m: it locks the mutex, with or without waiting, and is told that it owns it
pub record GetsMutex (m : ℕ) (d : Decision) : Type 0 where
  pub mutex : d.mutex ≡ m
  pub lock : (d.operation ≡ Lock) ⊎ ((d.operation ≡ TryLock) ⊎ (d.operation ≡ TimedLock))
  pub owner : (d.reply ≡ OK) ⊎ (d.reply ≡ EOWNERDEAD)

-- by this line no thread gets it
pub record GivesNobody (m : ℕ) (l : Line) : Type 0 where
  pub never : (d : Decision) → l.fact ≡ Point d → GetsMutex m d → ⊥

-- this is the first point in these lines by which a thread gets it
pub record IsFirstHeir (ls : List Line) (m : ℕ) (d : Decision) : Type 0 where
  pub before : List Line
  pub line : Line
  pub after : List Line
  pub all : ls ≡ before ++ line ∷ after
  pub tells : line.fact ≡ Point d
  pub gets : GetsMutex m d
  pub none : Each (GivesNobody m) before

-- ---- titles

-- `t1 dies owning m0`, in a page's names
abbrev pub death_words : Called → ℕ → ℕ → List ℕ
death_words n t m = (thread_head n t ++ thread_tail n t) ++ (codes " dies owning " ++ (mutex_head n m ++ mutex_tail n m))

-- `; t2 gets EOWNERDEAD`
abbrev pub heir_words : Called → Decision → List ℕ
heir_words n d = codes "; " ++ ((thread_head n d.thread ++ thread_tail n d.thread) ++ (codes " gets " ++ reply_word d.reply))

-- a title of these lines, of a trace's page and of a history's
pub record AreTitles (n : Called) (ls : List Line) (of_trace of_history : List ℕ) : Type 0 where
  pub trace : title_text n Trace ls ≡ of_trace
  pub history : title_text n History ls ≡ of_history

-- the page has this title
pub record HasTitle (page title : List ℕ) : Type 0 where
  pub rest : List ℕ
  pub whole : page ≡ TOP.now ++ (title ++ rest)

pub record TitlesTellTheFirstDeath : Type 0 where
  -- each page's title is one of the lines that it shows
  pub traces : (n : Called) (t : Told) (f : Finding) → HasTitle (page_text n t f) (title_text n Trace (lines_shown t f))
  pub histories : (n : Called) (t : Told) (why : Option (List ℕ))
      → HasTitle (history_page_text n t why) (title_text n History (history_shown t why))
  -- where none of them tells a death, it tells none; else it tells the first
  pub either : (ls : List Line)
      → Each TellsNoDeath ls ⊎ ((t m : ℕ) × (later : List Line) × IsFirstDeath ls t m later)
  pub none : (n : Called) (ls : List Line) → Each TellsNoDeath ls
      → AreTitles n ls (codes "A trace of robust mutexes") (codes "A history of robust mutexes")
  -- and the first who gets the mutex after that, if somebody does
  pub nobody : (n : Called) (ls later : List Line) (t m : ℕ) → IsFirstDeath ls t m later → Each (GivesNobody m) later
      → AreTitles n ls (death_words n t m) (codes "A history: " ++ death_words n t m)
  pub heir : (n : Called) (ls later : List Line) (t m : ℕ) (d : Decision) → IsFirstDeath ls t m later → IsFirstHeir later m d
      → AreTitles n ls (death_words n t m ++ heir_words n d) (codes "A history: " ++ (death_words n t m ++ heir_words n d))

-- ---- the lines of a history

-- of a history's trace the first 100,000 lines are shown, without the illegal line, if there is one, which is the last:
-- what that line tells, and its number, are reported next to what is said of it
pub record HistoryLinesAreShown : Type 0 where
  pub legal : (t : Told) → history_shown t None ≡ take 100000 t.lines.items
  pub illegal : (t : Told) (why : List ℕ) (before : List Line) (line : Line) → t.lines.items ≡ before ++ line ∷ []
      → history_shown t (Some why) ≡ take 100000 before
  pub told : (before : List Line) (line : Line)
      → misfit_line (before ++ line ∷ []) (length (before ++ line ∷ []) + 1) ≡ Some line
