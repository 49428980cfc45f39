-- The stages that were gone through have their heads, by the tops as they were.
use Rattle.std.proofs.Common.{◌≡◌, length}
use Rattle.cluster_split.specs.Tops.{IsShortcut}
use Rattle.cluster_split.proofs.TopFacts.{LeadTo}
use Rattle.cluster_split.proofs.heads.heads_of.Given as goal

abbrev pub invariant-stages : goal.invariant-stages
invariant-stages l = record {
  short : IsShortcut l.initial.tops l.tops;
  long : length l.heads ≡ l.x;
  heads : LeadTo l.initial.tops l.place l.heads;
}
