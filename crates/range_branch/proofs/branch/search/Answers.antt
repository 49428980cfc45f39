use Rattle.search_laws.proofs.OwnFacts.{own_few, own_spent}
use Rattle.range_branch.proofs.EndedFacts.{ended_own, ended_true, ended_short, ended_one, ended_stages, ended_solves}
use Rattle.range_branch.proofs.branch.search.Goals as goal

pub searched-requires-clause-given : goal.searched-requires-clause-given
searched-requires-clause-given g c = record {
  valid = c.horizon-horizon.ensures.valid;
  forest = c.requires.forest;
  order = c.requires.order;
  some = c.requires.some_budget;
  most = c.requires.budget;
}

pub returns-in-Ok-clause-own : goal.returns-in-Ok-clause-own
returns-in-Ok-clause-own g c = ended_own c.args.network.now c.args.forest.now c.args.budget c.searched.new.pool c.in-Ok.cert c.horizon-horizon.ensures.valid c.in-Ok.ensures.cert

pub returns-in-Ok-clause-true_verdict : goal.returns-in-Ok-clause-true_verdict
returns-in-Ok-clause-true_verdict g c =
    ended_true c.args.network.now c.args.forest.now c.args.budget c.searched.new.pool c.in-Ok.cert c.horizon-horizon.ensures.valid c.in-Ok.ensures.cert

pub returns-in-Ok-clause-short : goal.returns-in-Ok-clause-short
returns-in-Ok-clause-short g c =
    ended_short c.args.network.now c.args.forest.now c.args.budget c.searched.new.pool c.in-Ok.cert c.requires.forest c.in-Ok.ensures.cert

pub returns-in-Ok-clause-one : goal.returns-in-Ok-clause-one
returns-in-Ok-clause-one g c = ended_one c.args.network.now c.args.forest.now c.args.budget c.searched.new.pool c.in-Ok.cert c.in-Ok.ensures.cert

pub returns-in-Ok-clause-stages : goal.returns-in-Ok-clause-stages
returns-in-Ok-clause-stages g c = ended_stages c.args.network.now c.args.forest.now c.args.budget c.searched.new.pool c.in-Ok.cert c.in-Ok.ensures.cert

pub returns-in-Ok-clause-solved : goal.returns-in-Ok-clause-solved
returns-in-Ok-clause-solved g c =
    ended_solves c.args.network.now c.args.forest.now c.args.budget c.searched.new.pool c.in-Ok.cert c.horizon-horizon.ensures.valid c.requires.forest c.in-Ok.ensures.cert

pub returns-in-Ok-clause-nodes : goal.returns-in-Ok-clause-nodes
returns-in-Ok-clause-nodes g c =
    let n = c.args.network.now in
    let f = c.args.forest.now in
    let valid = c.horizon-horizon.ensures.valid in
    own_few n f c.args.budget c.in-Ok.cert valid c.requires.forest (ended_own n f c.args.budget c.searched.new.pool c.in-Ok.cert valid c.in-Ok.ensures.cert)

pub returns-in-Ok-clause-spent : goal.returns-in-Ok-clause-spent
returns-in-Ok-clause-spent g c =
    let n = c.args.network.now in
    let f = c.args.forest.now in
    let valid = c.horizon-horizon.ensures.valid in
    own_spent n f c.args.budget c.in-Ok.cert valid c.requires.forest (ended_own n f c.args.budget c.searched.new.pool c.in-Ok.cert valid c.in-Ok.ensures.cert)
