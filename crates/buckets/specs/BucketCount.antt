-- How many futex hash buckets there are.
use Rattle.std.specs.Prelude.{ℕ}

-- of a kernel; a key's bucket is its remainder by this
abbrev pub bucket_count : ℕ
bucket_count = 256
