use Rattle.std.proofs.Common.{◌≡◌, Ok, sym, subst}
use Rattle.edit_reuse.specs.Sessions.{State, state_of, IsSession}
use Rattle.edit_reuse.specs.Edits.{BehindCase, HasRoom}
use Rattle.edit_reuse.proofs.SessionFacts.{session_countable, rule_told}
use Rattle.edit_reuse.proofs.session.Session.behind.Goals as goal

pub budgeted_network-requires-clause-countable : goal.budgeted_network-requires-clause-countable
budgeted_network-requires-clause-countable c =
    let s = state_of c.self.inside.files c.self.inside.horizon c.self.inside.asked c.self.inside.made in
    let is : IsSession s = c.self.invariant in
    let seen : s ≡ c.args.self.now = c.self.view_is in
    let room : HasRoom s.files = subst (λ (x : State). HasRoom x.files) (sym seen) c.requires.room in
    session_countable s c.args.edit.now c.in_ok-files.files is room c.requires.short c.in_ok-files.ensures.value

pub returns-in_err-made : goal.returns-in_err-made
returns-in_err-made c =
    let s = state_of c.self.inside.files c.self.inside.horizon c.self.inside.asked c.self.inside.made in
    let seen : s ≡ c.args.self.now = c.self.view_is in
    let told = c.from_residual-in_err-made in
    subst (λ (x : State). BehindCase x c.args.edit.now told.result) seen
    (rule_told s c.args.edit.now c.in_ok-files.files c.in_err-made.field-0.0 told.result c.in_ok-files.ensures.value c.in_err-made.ensures told.ensures.1)

pub returns : goal.returns
returns c =
    let s = state_of c.self.inside.files c.self.inside.horizon c.self.inside.asked c.self.inside.made in
    let is : IsSession s = c.self.invariant in
    let seen : s ≡ c.args.self.now = c.self.view_is in
    let room : HasRoom s.files = subst (λ (x : State). HasRoom x.files) (sym seen) c.requires.room in
    let countable = session_countable s c.args.edit.now c.in_ok-files.files is room c.requires.short c.in_ok-files.ensures.value in
    subst (λ (x : State). BehindCase x c.args.edit.now (Ok (c.in_ok-files.files, c.in_ok-made.made))) seen
    (c.in_ok-files.ensures.value, countable, c.in_ok-made.ensures)
