-- Programs of workspaces run as their sources mean.
use Rattle.go_emit_core.specs.package_core.PackagePartSlots.{somes}
use Rattle.go_body_core.specs.typexpr_core.EntryAmong.{among_from}
use Rattle.go_snap_core.proofs.WholeWorkspaceChecks.{trees_are_placed}
use Rattle.go_snap_core.proofs.WholeWorkspacePartsWhole.{all_right}
use Rattle.go_workspace_laws.specs.ConstantLaws.{PartsAreFit}
use Rattle.go_workspace_laws.proofs.Grammar.{all_keep_rules}
use Rattle.go_program_laws.specs.calls.Integers.{PartsAreRead}
use Rattle.go_program_laws.specs.faultless.Parts.{PartsAreAmong, PartsAreSeenAlike, PartsShowTheirTypes}
use Rattle.go_program_laws.proofs.FaultlessAlike.{numbered_in}

pub parts_among : PartsAreFit → PartsAreRead → PartsAreSeenAlike → PartsShowTheirTypes → PartsAreAmong
parts_among fit read alike shows ws parts as_read made p h =
    let r = numbered_in parts p (among_from (somes parts) p h) in
    let fits = fit ws parts as_read.well made r.number p r.there in
    record {
      input = fits.input;
      others = fits.others;
      part = fits.part;
      files = record {
        grammar = all_keep_rules p.input.source.1 (read ws parts as_read made r.number p r.there);
        placed = trees_are_placed ws r.number p.input.source as_read.well (all_right ws parts made r.number p r.there).numbered;
      };
      shows = shows ws parts as_read made p h;
      alike = alike ws parts as_read.well made p h;
    }
