-- Items on which all rules hold, but perhaps the one on the sizes of numbers.
use Rattle.std.proofs.Common.{List, [], ◌∷◌, ◌++◌}
use Rattle.service_model.specs.declared.cert.Item.{Item}
use Rattle.service_model.specs.Net.{Net}
use Rattle.service_model.specs.Held.{Held, held_with, held_after}
use Rattle.service_model.specs.Certs.{AllKeep}
use Rattle.search_laws.specs.Own.{AllHold}

-- they hold where all rules do
pub all_hold : (n : Net) (h : Held) (items : List Item) → AllKeep n h items → AllHold n h items
all_hold n h [] keep = tt
all_hold n h (x ∷ items) keep = (λ rule other. keep.0 rule, all_hold n (held_with h x) items keep.1)

pub AllHold-parts : (n : Net) (h : Held) (xs ys : List Item) → AllHold n h (xs ++ ys) → AllHold n h xs × AllHold n (held_after h xs) ys
AllHold-parts n h [] ys hold = (tt, hold)
AllHold-parts n h (x ∷ xs) ys hold = let rest = AllHold-parts n (held_with h x) xs ys hold.1 in ((hold.0, rest.0), rest.1)
