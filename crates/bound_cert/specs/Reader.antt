-- What contracts see of a reader of certificates.
use Rattle.std.specs.Prelude.{ℕ, Bool, false, Option, Some, None, Result, Ok, Err}
use Rattle.bound_cert.specs.declared.fault.FeedStop.{FeedStop}
use Rattle.bound_cert.specs.Stream.{Place, start}

-- how many bytes came, whether their end was told, where they are, and the refusal that is repeated from now on
pub record Reader : Type 0 where
  pub fed : ℕ
  pub closed : Bool
  pub place : Place
  pub answer : Option FeedStop

-- a reader that was fed nothing
abbrev pub new_reader : Reader
new_reader = record { fed = 0; closed = false; place = start; answer = None }

-- the refusal, where there is one
abbrev pub refusal_of : Result (Unit {0}) FeedStop → Option FeedStop
refusal_of (Ok u) = None
refusal_of (Err stop) = Some stop
