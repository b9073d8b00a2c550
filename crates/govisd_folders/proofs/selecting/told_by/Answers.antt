use Rattle.std.proofs.Common.{◌++◌, ◌∷◌, [], ◌∙◌, ap, inl, inr}
use Rattle.std.proofs.lemmas.Slice.Zip.{Zip-more, either_empty_from_Zip}
use Rattle.govisd_folders.specs.Selecting.{told_by, told_of}
use Rattle.govisd_folders.proofs.SelectingLemmas.{no_causes, no_faults, told_step}
use Rattle.govisd_folders.proofs.selecting.told_by.Goals as goal

pub loop-fault-preserved : goal.loop-fault-preserved
loop-fault-preserved c =
    let every = c.args.faults.now in
    let left = c.loop-fault.fault-iterator in
    let rest = c.next.new.self in
    let before = c.loop-fault.told.items in
    let more = Zip-more left rest c.next.result (c.in-Some.fault, c.in-Some.cause) c.in-Some.is c.next.ensures.steps in
    told_step every before (told_by every every c.args.causes.now) left.a.rest.now rest.a.rest.now left.b.rest.now rest.b.rest.now c.in-Some.fault.now c.in-Some.cause.now c.push.new.self.items more.0 more.1
    (c.in_ok-push.ensures.items ∙ ap (λ r. before ++ told_of c.in-Some.fault.now r ∷ []) c.root_of-root.ensures) c.loop-fault.invariant

pub returns : goal.returns
returns c =
    let every = c.args.faults.now in
    let left = c.loop-fault.fault-iterator in
    let now = c.loop-fault.told.items in
    let all = told_by every every c.args.causes.now in
    elim (either_empty_from_Zip left c.next.new.self c.next.result c.in-None.is c.next.ensures.steps) [
      | inl e ↦ no_faults every now all left.a.rest.now left.b.rest.now e c.loop-fault.invariant
      | inr e ↦ no_causes every now all left.a.rest.now left.b.rest.now e c.loop-fault.invariant
    ]
