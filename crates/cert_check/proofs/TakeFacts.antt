-- What a take of a checker says as a take.
use Rattle.std.proofs.Common.{◌≡◌, ◌≤◌, List, [], ◌∷◌, ◌++◌, Result, Ok, Err, sym, ap, ◌∙◌, subst, arith}
use Rattle.service_model.specs.declared.cert.Item.{Item}
use Rattle.service_model.specs.declared.taker.TakeStop.{TakeStop}
use Rattle.service_model.specs.declared.taker.TakeStop.TheVariants.{Stopped, NoMemory}
use Rattle.service_model.specs.Net.{Net}
use Rattle.service_model.specs.Takers.{with_taken, CountsStops}
use Rattle.service_model.specs.Held.{Held, none_held, held_with}
use Rattle.service_model.specs.CertRules.{Keeps}
use Rattle.service_model.specs.Certs.{AllKeep}
use Rattle.cert_laws.proofs.KeptFacts.{held_after-append, AllKeep-push}
use Rattle.cert_check.specs.Checking.{Checking, StandsFor, Takes}

pub take_stands : (old new : Checking) (x : Item) (result : Result (Unit {0}) TakeStop) (items : List Item) → Takes old new x result → StandsFor old items
    → StandsFor new (with_taken result items x)
take_stands old new x (Ok u) items taken stands =
    let keeps = subst (λ (h : Held). Keeps old.network h x) stands.came taken.keeps in
    let now : StandsFor (record old { held = held_with old.held x }) (items ++ x ∷ []) = record {
      came = ap (λ (h : Held). held_with h x) stands.came ∙ sym (held_after-append none_held items (x ∷ []));
      keep = AllKeep-push old.network none_held items x stands.keep keeps;
    } in
    subst (λ (c : Checking). StandsFor c (items ++ x ∷ [])) (sym taken.more) now
take_stands old new x (Err Stopped) items stopped stands = record {
  came = stopped.held ∙ stands.came;
  keep = subst (λ (n : Net). AllKeep n none_held items) (sym stopped.network) stands.keep;
}
take_stands old new x (Err NoMemory) items same stands = subst (λ (c : Checking). StandsFor c items) (sym same) stands

pub take_counts : (old new : Checking) (x : Item) (result : Result (Unit {0}) TakeStop) → Takes old new x result → old.stops ≤ new.stops
    → CountsStops old.stops new.stops result
take_counts old new x (Ok u) taken later =
    let same : new.stops ≡ old.stops = ap (λ (c : Checking). c.stops) taken.more in
    record { later = later; stopped = λ stop. absurd (cc); kept = same }
take_counts old new x (Err Stopped) stopped later =
    record { later = later; stopped = λ stop. omega (arith, stopped.stops); kept = tt }
take_counts old new x (Err NoMemory) same later =
    let even : new.stops ≡ old.stops = ap (λ (c : Checking). c.stops) same in
    record { later = later; stopped = λ stop. absurd (cc); kept = tt }
