-- Bytes that end without a fault have a verdict.
use Rattle.std.proofs.Common.{◌≡◌, ℕ, List, [], ◌∷◌, ◌++◌, Bool, true, false, IsSome, is_some, Result, Ok, Err, refl, sym, ap, ◌∙◌, subst, append-nil}
use Rattle.service_model.specs.declared.cert.Item.{Item}
use Rattle.service_model.specs.Held.{Held, none_held, held_after}
use Rattle.cert_laws.proofs.KeptFacts.{held_after-append}
use Rattle.bound_cert.specs.declared.fault.CertFault.{CertFault}
use Rattle.bound_cert.specs.Stream.{Place, Step, Reads, start, line_done, read_byte, go_on, behind, reads, closed, has_begun, reads_end, then_reads}
use Rattle.bound_cert.specs.Order.{Counts}
use Rattle.bound_cert.proofs.OrderFacts.{read_in_order}
use Rattle.cert_check.specs.Bytes.{whole}

-- a verdict is among what came where this ends without a fault
abbrev Ends : Held → Reads → Type 0
Ends h r = (q : Place) → r.1 ≡ Ok q → IsSome (held_after h r.0).verdict

no_place : (fault : CertFault) (q : Place) → (let r : Result Place CertFault = Err fault in r) ≡ Ok q → ⊥
no_place fault q e = cc

closes_by : (h : Held) (p : Place) (ended : Bool) → p.ended ≡ ended → p.ended ≡ is_some h.verdict → Ends h (closed p)
unfolding closed
closes_by h p true e counted q ok = rw e (sym counted ∙ e)
closes_by h p false e counted q ok = absurd (no_place _ q (rw e at ok))

closes : (h : Held) (p : Place) → Counts h p → Ends h (closed p)
closes h p counts = closes_by h p p.ended refl counts.ended

-- a line that is done gives what a line feed gives
line_fed : (p : Place) → reads (10 ∷ []) p ≡ go_on (reads []) (line_done p)
unfolding read_byte
line_fed p = refl

-- the place behind the item of the last line counts it
last_counts : (h : Held) (p q : Place) (items : List Item) → Counts h p → line_done p ≡ Ok (items, q) → Counts (held_after h items) q
last_counts h p q items counts done =
    let read : reads (10 ∷ []) p ≡ (items ++ [], Ok q) = line_fed p ∙ ap (go_on (reads [])) done in
    let counted = (read_in_order (10 ∷ []) h p counts).1 q (ap (λ (r : Reads). r.1) read) in
    subst (λ (xs : List Item). Counts (held_after h xs) q) (ap (λ (r : Reads). r.0) read ∙ append-nil items) counted

ends_behind : (h : Held) (items : List Item) (r : Reads) → Ends (held_after h items) r → Ends h (behind items r)
ends_behind h items r ends q ok = subst (λ (g : Held). IsSome g.verdict) (sym (held_after-append h items r.0)) (ends q ok)

last_ends : (h : Held) (p : Place) (step : Step) → Counts h p → line_done p ≡ step → Ends h (go_on closed step)
last_ends h p (Ok x) counts done = ends_behind h x.0 (closed x.1) (closes (held_after h x.0) x.1 (last_counts h p x.1 x.0 counts done))
last_ends h p (Err fault) counts done = λ q ok. absurd (no_place fault q ok)

end_by : (h : Held) (p : Place) (begun : Bool) → Counts h p → has_begun p ≡ begun → Ends h (reads_end p)
unfolding reads_end
end_by h p true counts e q ok = rw e (last_ends h p (line_done p) counts refl q (rw e at ok))
end_by h p false counts e q ok = rw e (closes h p counts q (rw e at ok))

then_ends : (h : Held) (r : Reads) → ((p : Place) → r.1 ≡ Ok p → Counts (held_after h r.0) p) → Ends h (then_reads r reads_end)
then_ends h (items, Ok p) counts = ends_behind h items (reads_end p) (end_by (held_after h items) p (has_begun p) (counts p refl) refl)
then_ends h (items, Err fault) counts = λ q ok. absurd (no_place fault q ok)

starts : Counts none_held start
starts = record { first = refl; tables = refl; nodes = refl; splits = refl; ended = refl }

pub whole_ends : (bytes : List ℕ) (q : Place) → (whole bytes).1 ≡ Ok q → IsSome (held_after none_held (whole bytes).0).verdict
whole_ends bytes = then_ends none_held (reads bytes start) (read_in_order bytes none_held start starts).1
