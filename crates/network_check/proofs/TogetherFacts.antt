-- The first rule that fails on records together, and the network where none fails.
use Rattle.std.proofs.Common.{◌≡◌, ℕ, length, Option, Some, None, List, Result, Ok, Err, ap, subst, ◌∙◌}
use Rattle.service_model.specs.declared.faults.NetworkFault.{NetworkFault}
use Rattle.service_model.specs.declared.faults.NewFault.{NewFault}
use Rattle.service_model.specs.declared.faults.NewFault.TheVariants.{Rule}
use Rattle.service_model.specs.declared.stage.Stage.{Stage}
use Rattle.service_model.specs.declared.stage.SupplyArc.{SupplyArc}
use Rattle.service_model.specs.Net.{Net, net_of}
use Rattle.service_model.specs.Faults.{IsFirstFault, MakesNetwork}
use Rattle.service_model.specs.Walks.{NoCycle, IsFirstOnCycle}
use Rattle.service_model.proofs.ValidFacts.{valid_has_no_fault}
use Rattle.stage_file.specs.declared.fault.ReadFault.{ReadFault}
use Rattle.stage_file.specs.declared.fault.ReadFault.TheVariants.{Fault, NoMemory}
use Rattle.stage_file.specs.declared.raw.Files.{Files}
use Rattle.stage_file.specs.declared.raw.RawNet.{RawNet}
use Rattle.stage_file.specs.Raw.{raw_fault, raw_of}
use Rattle.demand_tables.specs.DemandFaults.{DemandCase}
use Rattle.network_check.specs.declared.checked.Checked.{Checked}
use Rattle.network_check.specs.Checked.{stages_from, supply_arcs, network_from, checked_from, IsNetworkOf, IsChecked}
use Rattle.network_check.specs.Refusals.{IsFirstTogether, RecordsCase, FilesCase}
use Rattle.network_check.proofs.CheckedFacts.{same_is_checked}
use Rattle.network_check.proofs.LimitFacts.{IsWithin, is_network}

-- where no stage is found, none reaches itself
pub no_cycle : (raw : RawNet) (count : ℕ) (arcs : List SupplyArc) (first : Option ℕ) → count ≡ length raw.stages → arcs ≡ supply_arcs raw → first ≡ None → IsFirstOnCycle count arcs first → NoCycle (length raw.stages) (supply_arcs raw)
no_cycle raw count arcs first all_stages all_arcs none is =
    let found : IsFirstOnCycle count arcs None = subst (λ (x : Option ℕ). IsFirstOnCycle count arcs x) none is in
    let counted : NoCycle (length raw.stages) arcs = subst (λ (n : ℕ). NoCycle n arcs) all_stages found in
    subst (λ (xs : List SupplyArc). NoCycle (length raw.stages) xs) all_arcs counted

-- no rule on networks fails
pub never_refused : (raw : RawNet) (lists : List (List ℕ)) (stages : List Stage) (arcs : List SupplyArc) (f : NetworkFault) (e : NewFault) (r : Result Net NewFault) → IsWithin raw lists
    → stages ≡ stages_from raw.stages lists → arcs ≡ supply_arcs raw → MakesNetwork (net_of raw.horizon stages arcs) r → r ≡ Err e → e ≡ Rule f → ⊥
never_refused raw lists stages arcs f e r is all_stages all_arcs makes refused rule =
    let fails : IsFirstFault (net_of raw.horizon stages arcs) (Some f) = subst (λ (x : Result Net NewFault). MakesNetwork (net_of raw.horizon stages arcs) x) (refused ∙ ap (λ (x : NewFault). Err x) rule) makes in
    let staged : IsFirstFault (net_of raw.horizon (stages_from raw.stages lists) arcs) (Some f) = subst (λ (xs : List Stage). IsFirstFault (net_of raw.horizon xs arcs) (Some f)) all_stages fails in
    let same : IsFirstFault (network_from raw lists) (Some f) = subst (λ (xs : List SupplyArc). IsFirstFault (net_of raw.horizon (stages_from raw.stages lists) xs) (Some f)) all_arcs staged in
    valid_has_no_fault (network_from raw lists) f (is_network raw lists is) same

-- where no stage reaches itself, a refusal of the excess demands is that of the records
pub refused_demand : (raw : RawNet) (e : ReadFault) → NoCycle (length raw.stages) (supply_arcs raw) → DemandCase raw (Err e) → RecordsCase raw (Err e)
refused_demand raw (Fault f) acyclic is = (None, acyclic, is)
refused_demand raw NoMemory acyclic is = tt

-- the network that is made
pub made_together : (raw : RawNet) (c : Checked) → NoCycle (length raw.stages) (supply_arcs raw) → DemandCase raw (Ok c.excess) → c ≡ checked_from raw c.excess → RecordsCase raw (Ok c)
made_together raw c acyclic is same =
    ((None, acyclic, is.0), record { excess = is.1; made = same }, same_is_checked raw c.excess c is.1.long same)

-- where the rules of each file hold, the rules on their records decide
pub case_of_files : (horizon : ℕ) (files : Files) (raw : RawNet) (r : Result Checked ReadFault) → raw_fault horizon files ≡ None → raw ≡ raw_of horizon files → RecordsCase raw r → FilesCase horizon files r
case_of_files horizon files raw (Ok c) none same is =
    let P : RawNet → Type 0 = λ x. IsFirstTogether x None × IsNetworkOf x c × IsChecked c in
    let at = subst P same is in
    (rw none at.0, at.1, at.2)
case_of_files horizon files raw (Err (Fault f)) none same is = rw none (subst (λ (x : RawNet). IsFirstTogether x (Some f)) same is)
case_of_files horizon files raw (Err NoMemory) none same is = is
