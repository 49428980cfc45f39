-- How often the real files and the real output have failed.
use Rattle.std.specs.Prelude.{ℕ}
use Rattle.gsm_outside.specs.declared.real.FileShelf.{FileShelf}
use Rattle.gsm_outside.specs.declared.real.StdSink.{StdSink}

-- how often a fetch has failed
abbrev pub file_read_faults : {R : Type 0} → FileShelf R → ℕ
file_read_faults shelf = shelf.read_faults

-- how often a create or an append has failed
abbrev pub file_write_faults : {R : Type 0} → FileShelf R → ℕ
file_write_faults shelf = shelf.write_faults

-- how often a put has failed
abbrev pub output_faults : {R : Type 0} → StdSink R → ℕ
output_faults sink = sink.faults
