-- The place was led to, and each place leads where it led before.
use Rattle.cluster_split.specs.Tops.{IsShortcut, Reaches}
use Rattle.cluster_split.proofs.tops.top_of.Given as goal

abbrev pub invariant-climb : goal.invariant-climb
invariant-climb l = record {
  short : IsShortcut l.initial.tops l.tops;
  there : Reaches l.initial.tops l.place l.at;
}

abbrev pub decreases-climb : goal.decreases-climb
decreases-climb l = l.at
