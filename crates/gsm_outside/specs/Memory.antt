-- What the shelves and sinks in memory keep.
use Rattle.std.specs.Prelude.{◌≡◌, ℕ, ◌+◌, List, None, Contains}
use Rattle.std.specs.FinMap as map
use Rattle.gsm_outside.specs.Causes.{next_count}
use Rattle.gsm_outside.specs.Held.{Held, file_bytes}
use Rattle.gsm_outside.specs.declared.sure.SureShelf.{SureShelf}
use Rattle.gsm_outside.specs.declared.sure.SureSink.{SureSink}
use Rattle.gsm_outside.specs.declared.failing.MemShelf.{MemShelf}
use Rattle.gsm_outside.specs.declared.failing.MemSink.{MemSink}

-- the files of a shelf that never fails
abbrev pub sure_files : SureShelf → Held
sure_files shelf = shelf.files

-- the bytes of a name on it, and none where it is missing
abbrev pub sure_bytes : SureShelf → List ℕ → List ℕ
sure_bytes shelf name = file_bytes (sure_files shelf) name

-- what was written to a sink that never fails
abbrev pub sure_written : SureSink → List ℕ
sure_written sink = sink.bytes.items

-- the files of a shelf whose listed calls fail
abbrev pub mem_files : MemShelf → Held
mem_files shelf = shelf.files

-- the bytes of a name on it, and none where it is missing
abbrev pub mem_bytes : MemShelf → List ℕ → List ℕ
mem_bytes shelf name = file_bytes (mem_files shelf) name

-- the numbers of the calls that are to fail
abbrev pub mem_failing : MemShelf → List ℕ
mem_failing shelf = shelf.calls.failing.items

-- how many calls of fetch, create and append were made
abbrev pub mem_calls : MemShelf → ℕ
mem_calls shelf = shelf.calls.made

-- how often a fetch has failed
abbrev pub mem_read_faults : MemShelf → ℕ
mem_read_faults shelf = shelf.read_faults

-- how often a create or an append has failed
abbrev pub mem_write_faults : MemShelf → ℕ
mem_write_faults shelf = shelf.write_faults

-- the next call is one of those that are to fail
abbrev pub IsNextListed : MemShelf → Type 0
IsNextListed shelf = Contains (mem_failing shelf) (mem_calls shelf + 1)

-- there is no file of this name
abbrev pub IsMissing : MemShelf → List ℕ → Type 0
IsMissing shelf name = map.get (mem_files shelf) name ≡ None

-- one call was counted, and the list of those that are to fail stays
pub record IsCounted (old new : MemShelf) : Type 0 where
  pub calls : mem_calls new ≡ next_count (mem_calls old)
  pub failing : mem_failing new ≡ mem_failing old

-- no call and no fault was counted, and the list of the calls that are to fail stays
pub record IsUncounted (old new : MemShelf) : Type 0 where
  pub calls : mem_calls new ≡ mem_calls old
  pub failing : mem_failing new ≡ mem_failing old
  pub read_faults : mem_read_faults new ≡ mem_read_faults old
  pub write_faults : mem_write_faults new ≡ mem_write_faults old

-- what was written to a sink whose listed puts fail
abbrev pub mem_written : MemSink → List ℕ
mem_written sink = sink.bytes.items

-- the numbers of the puts that are to fail
abbrev pub mem_failing_puts : MemSink → List ℕ
mem_failing_puts sink = sink.puts.failing.items

-- how many puts were made
abbrev pub mem_puts : MemSink → ℕ
mem_puts sink = sink.puts.made

-- how often a put has failed
abbrev pub mem_faults : MemSink → ℕ
mem_faults sink = sink.faults

-- the next put is one of those that are to fail
abbrev pub IsNextPutListed : MemSink → Type 0
IsNextPutListed sink = Contains (mem_failing_puts sink) (mem_puts sink + 1)

-- one put was counted, and the list of those that are to fail stays
pub record IsPutCounted (old new : MemSink) : Type 0 where
  pub puts : mem_puts new ≡ next_count (mem_puts old)
  pub failing : mem_failing_puts new ≡ mem_failing_puts old
