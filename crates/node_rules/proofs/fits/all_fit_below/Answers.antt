use Rattle.std.proofs.Common.{◌≡◌, ◌+◌, ◌-◌, ℕ, List, Bool, false, refl, ◌∙◌, subst, arith}
use Rattle.std.proofs.lemmas.Bool.{false≢true, both_ways}
use Rattle.service_model.specs.Tables.{table_at}
use Rattle.service_model.specs.Nodes.{Fits}
use Rattle.node_rules.specs.Marks.{IsMarked, MarksMore}
use Rattle.node_rules.proofs.FitFacts.{Looked, looked_start, looked_more, looked_fails, looked_all}
use Rattle.node_rules.proofs.fits.all_fit_below.Goals as goal

pub tables-init : goal.tables-init
tables-init c =
    looked_start (λ k. Fits c.args.range.now.network.now c.args.range.now.range.now (table_at c.args.tables.now k)) c.args.tables.now c.args.roots.now c.mark_all.new.marks
    (subst (λ (marks : List Bool). MarksMore c.args.roots.now marks c.mark_all.new.marks) c.in_ok-marks.ensures c.mark_all.ensures)

pub returns-then-not-fits : goal.returns-then-not-fits
returns-then-not-fits c =
    let P = λ (k : ℕ). Fits c.args.range.now.network.now c.args.range.now.range.now (table_at c.args.tables.now k) in
    let marked : IsMarked c.tables.marks (c.tables.number - 1) = c.get.ensures.whatever_else false ∙ c.if-get.true in (
      λ bad. absurd (false≢true bad),
      λ all.
          absurd
          (looked_fails P c.args.tables.now c.args.roots.now c.tables.marks c.tables.number (c.tables.number - 1) c.tables.invariant marked
          (λ fit. both_ways _ c.if-not-fits.true (c.fits.ensures.1 (rw c.table_in-table.ensures fit))) all),
    )

pub tables-preserved-then-get : goal.tables-preserved-then-get
tables-preserved-then-get c =
    let P = λ (k : ℕ). Fits c.args.range.now.network.now c.args.range.now.range.now (table_at c.args.tables.now k) in
    let marked : IsMarked c.tables.marks (c.tables.number - 1) = c.get.ensures.whatever_else false ∙ c.if-get.true in
    let next : c.tables.number ≡ (c.tables.number - 1) + 1 = (let some = c.tables-test.true in omega (arith, some)) in
    looked_more c.args.range.now.network.now P c.args.tables.now c.args.roots.now c.tables.marks c.mark_all-then-get.new.marks c.tables.number (c.tables.number - 1)
    c.requires.sound next c.tables.invariant marked
    (rw c.table_in-table.ensures at (c.fits.ensures.0 c.if-not-fits.false))
    (rw (c.as_slice.ensures, c.table_in-table.ensures) at c.mark_all-then-get.ensures)

pub returns : goal.returns
returns c =
    let P = λ (k : ℕ). Fits c.args.range.now.network.now c.args.range.now.range.now (table_at c.args.tables.now k) in
    let none : c.tables.number ≡ 0 = (let done = c.tables-test.false in omega (arith, done)) in (
      λ fit.
          looked_all c.args.range.now.network.now P c.args.tables.now c.args.roots.now c.tables.marks c.requires.sound
          (subst (Looked P c.args.tables.now c.args.roots.now c.tables.marks) none c.tables.invariant),
      λ all. refl,
    )
