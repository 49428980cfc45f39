-- The words of a seed, as SplitMix64 gives them.
use Rattle.std.specs.Prelude.{ℕ, ◌+◌, ◌*◌, ◌/◌, ◌%◌, ◌^◌, bit_xor}

-- the state behind so many words of a seed: each word moves it on by the same odd number
unfoldable pub state_after : ℕ → ℕ → ℕ
state_after seed taken = (seed + taken * 0x9e3779b97f4a7c15) % 2 ^ 64

-- a number with its bits from k on laid over the lowest ones
abbrev pub folded : ℕ → ℕ → ℕ
folded z k = bit_xor z (z / 2 ^ k)

-- the mix of a state: folded and multiplied twice, and then folded
abbrev pub mixed : ℕ → ℕ
mixed state = folded (folded (folded state 30 * 0xbf58476d1ce4e5b9 % 2 ^ 64) 27 * 0x94d049bb133111eb % 2 ^ 64) 31

-- word n of a seed, from 0 on: the mix of the state behind it
unfoldable pub word : ℕ → ℕ → ℕ
word seed n = mixed (state_after seed (n + 1))

-- a number below so many by word n of a seed: the word's remainder
abbrev pub drawn : ℕ → ℕ → ℕ → ℕ
drawn seed n among = word seed n % among
