use Rattle.std.proofs.Common.{sym, ◌∙◌}
use Rattle.go_snap_core.proofs.Apart.{parts_apart}
use Rattle.go_workspace_laws.proofs.Objects.{all_alone, made_of, one_object_of}
use Rattle.go_workspace_laws.proofs.object_laws.objects_are_of_parts_alone.Goals as goal

pub returns : goal.returns
returns c =
    let local = c.check_is_local.ensures in
    let bind = c.imports_bind_theirs.ensures in
    record {
      alone = λ ps parts faults well snapshot. all_alone local bind ps parts well snapshot.made (parts_apart ps parts well snapshot.made);
      inputs = λ ps qs parts others faults again well sound one other p q mine theirs same.
          let apart = parts_apart ps parts well one.made in
          let different = parts_apart qs others sound other.made in
          let made = made_of local bind ps parts well one.made apart p mine in
          let again_made = made_of local bind qs others sound other.made different q theirs in
          (all_alone local bind ps parts well one.made apart).each p mine
          ∙ (one_object_of c.one_object.ensures p q same made.is_placed made.is_part again_made.is_part ∙ sym ((all_alone local bind qs others sound other.made different).each q theirs));
    }
