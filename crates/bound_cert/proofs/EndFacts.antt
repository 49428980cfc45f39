-- The end of the bytes, with or without a line begun.
use Rattle.std.proofs.Common.{◌≡◌, true, false}
use Rattle.bound_cert.specs.Stream.{Place, go_on, closed, has_begun, line_done, reads_end}

pub no_last_line : (p : Place) → has_begun p ≡ false → reads_end p ≡ closed p
unfolding reads_end
no_last_line p none = rw none

pub last_line : (p : Place) → has_begun p ≡ true → reads_end p ≡ go_on closed (line_done p)
unfolding reads_end
last_line p begun = rw begun
