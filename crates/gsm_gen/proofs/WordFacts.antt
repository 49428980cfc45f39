-- The words of a seed, one after another.
use Rattle.std.proofs.Common.{◌≡◌, ℕ, ◌+◌, ◌*◌, ◌%◌, ◌^◌, ◌<◌, refl, ap, sym, ◌∙◌, arith}
use Rattle.std.proofs.Math.Nat.{mod-add-mod, mod-eq_of_lt}
use Rattle.rand_xoshiro.specs.SplitMix64.{mix_u64, next_state}
use Rattle.gsm_gen.specs.Words.{state_after, mixed, word}

-- reference values of SplitMix64, so that a wrong constant, shift or count does not check
pub first_word : word 1234567 0 ≡ 6457827717110365317
unfolding word state_after
first_word = refl

pub second_word : word 1234567 1 ≡ 3203168211198807973
unfolding word state_after
second_word = refl

pub third_word : word 1234567 2 ≡ 9817491932198370423
unfolding word state_after
third_word = refl

pub first_word_of_zero : word 0 0 ≡ 16294208416658607535
unfolding word state_after
first_word_of_zero = refl

-- a step of the generator goes to the state behind one word more
pub state_next : (seed taken : ℕ) → next_state (state_after seed taken) ≡ state_after seed (taken + 1)
unfolding state_after
state_next seed taken =
    let more : seed + taken * 0x9e3779b97f4a7c15 + 0x9e3779b97f4a7c15 ≡ seed + (taken + 1) * 0x9e3779b97f4a7c15 = omega arith in
    mod-add-mod (seed + taken * 0x9e3779b97f4a7c15) (2 ^ 64) 0x9e3779b97f4a7c15 ∙ ap (λ n. n % 2 ^ 64) more

-- and gives the next word
pub word_next : (seed taken : ℕ) → (mix_u64 (state_after seed taken)).0 ≡ word seed taken
unfolding word
word_next seed taken = ap mixed (state_next seed taken)

-- before the first word the state is the seed
pub state_first : (seed : ℕ) → seed < 2 ^ 64 → seed ≡ state_after seed 0
unfolding state_after
state_first seed small =
    let same : seed + 0 * 0x9e3779b97f4a7c15 ≡ seed = omega arith in
    sym (ap (λ n. n % 2 ^ 64) same ∙ mod-eq_of_lt small)
