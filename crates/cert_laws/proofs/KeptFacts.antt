-- Items behind items.
use Rattle.std.proofs.Common.{◌≡◌, List, [], ◌∷◌, ◌++◌, refl, ap}
use Rattle.std.specs.Prelude.{Some}
use Rattle.service_model.specs.declared.cert.Verdict.{Verdict}
use Rattle.service_model.specs.declared.cert.Item.{Item}
use Rattle.service_model.specs.declared.cert.Item.TheVariants.{End as EndItem}
use Rattle.service_model.specs.Net.{Net}
use Rattle.service_model.specs.Held.{Held, held_with, held_after}
use Rattle.service_model.specs.CertRules.{Keeps}
use Rattle.service_model.specs.Certs.{AllKeep}

pub held_after-append : (h : Held) (xs ys : List Item) → held_after h (xs ++ ys) ≡ held_after (held_after h xs) ys
held_after-append h [] ys = refl
held_after-append h (x ∷ xs) ys = held_after-append (held_with h x) xs ys

-- the verdict of items that end with one
pub held_after-end : (h : Held) (items : List Item) (v : Verdict) → (held_after h (items ++ EndItem v ∷ [])).verdict ≡ Some v
held_after-end h items v = ap (λ (g : Held). g.verdict) (held_after-append h items (EndItem v ∷ []))

pub AllKeep-append : (n : Net) (h : Held) (xs ys : List Item) → AllKeep n h xs → AllKeep n (held_after h xs) ys → AllKeep n h (xs ++ ys)
AllKeep-append n h [] ys keep more = more
AllKeep-append n h (x ∷ xs) ys keep more = (keep.0, AllKeep-append n (held_with h x) xs ys keep.1 more)

pub AllKeep-parts : (n : Net) (h : Held) (xs ys : List Item) → AllKeep n h (xs ++ ys) → AllKeep n h xs × AllKeep n (held_after h xs) ys
AllKeep-parts n h [] ys keep = (tt, keep)
AllKeep-parts n h (x ∷ xs) ys keep = let rest = AllKeep-parts n (held_with h x) xs ys keep.1 in ((keep.0, rest.0), rest.1)

-- one item more
pub AllKeep-push : (n : Net) (h : Held) (items : List Item) (x : Item) → AllKeep n h items → Keeps n (held_after h items) x → AllKeep n h (items ++ x ∷ [])
AllKeep-push n h items x keep new = AllKeep-append n h items (x ∷ []) keep (new, tt)
