-- The files of a package are the same over two tables of types that agree on what is near.
use Rattle.std.proofs.Common.{◌≡◌, ℕ, List, refl, ap}
use Rattle.std.specs.Prelude.{Option}
use Rattle.go_body_core.specs.table_core.Entries.{Entry}
use Rattle.go_body_core.specs.typexpr_core.EntryEntries.{file_at}
use Rattle.go_body_core.specs.typexpr_core.EntryMeanings.{file_meaning}
use Rattle.go_body_core.specs.typexpr_core.EntryOutlines.{FileOutline}
use Rattle.go_emit_core.specs.declared_core.Faces.{TheFace}
use Rattle.go_emit_core.specs.declared_core.Laws.{LookAlike}
use Rattle.go_emit_core.specs.declared_core.Written.{WrittenOf, package_written}
use Rattle.go_emit_core.specs.declared_core.Locality.{written_are_local}
use Rattle.go_body_core.specs.env_core.Found.{found_outside}
use Rattle.go_snap_core.specs.near.Tables.{near_by, Nearby, AgreeOn}
use Rattle.go_snap_core.specs.near.Functions.{StandsAgree}
use Rattle.go_snap_core.specs.near.Packages.{PackageOf, scene_over, IsPackageNear}
use Rattle.go_snap_core.specs.near.Laws.{PackagesLookNearby}
use Rattle.go_snap_core.proofs.NearFiles.{file_used, file_breaks, file_declares}

module _ (near : Nearby) (p : PackageOf) (es fs : List Entry) (known : List (Option TheFace)) (law : IsPackageNear near p es known) (agree : AgreeOn near es fs) where
  alike : LookAlike p.shows p.path p.blocks es fs p.outlines
  alike = record {
    own = λ n o d t there form. agree.same _ (law.own n o d t there form);
    named = λ n o x k there mentioned h. agree.same k (law.meanings n x k h);
  }

  written_same : package_written p.shows p.path p.blocks es p.outlines ≡ package_written p.shows p.path p.blocks fs p.outlines
  written_same = written_are_local p.shows p.shows p.path p.blocks p.blocks es fs p.outlines (λ n o x there h. refl) alike

  stands : (n : ℕ) (o : FileOutline) → StandsAgree near (file_at p.path n o) (scene_over p es) (scene_over p fs) known known (file_meaning p.shows p.path p.blocks n) (file_meaning p.shows p.path p.blocks n)
  stands n o = record {
    scenes = record { path = refl; types = agree; exported = λ d name h. refl; exported_near = law.exported };
    names = λ name. refl;
    outside = λ name x. ap (λ (ws : List WrittenOf). found_outside (record { path = p.path; blocks = p.blocks; types = es; others = p.others; written = ws }) n known name x) written_same;
    outside_near = λ name x. law.outside n name x;
    meanings = λ x. refl;
    meanings_near = λ x. law.meanings n x;
  }

pub packages_nearby : PackagesLookNearby
packages_nearby = record {
  written = λ near p es fs known law agree. written_same (near_by near) p es fs known law agree;
  uses = λ near p es fs known n o imports f law agree. file_used (near_by near) (file_at p.path n o) (scene_over p es) (scene_over p fs) known known (file_meaning p.shows p.path p.blocks n) (file_meaning p.shows p.path p.blocks n) (stands (near_by near) p es fs known law agree n o) imports f;
  faults = λ near p es fs known n o f law agree. file_breaks (near_by near) (file_at p.path n o) (scene_over p es) (scene_over p fs) known known (file_meaning p.shows p.path p.blocks n) (file_meaning p.shows p.path p.blocks n) (stands (near_by near) p es fs known law agree n o) f;
  locals = λ near p es fs known n o f law agree. file_declares (near_by near) (file_at p.path n o) (scene_over p es) (scene_over p fs) known known (file_meaning p.shows p.path p.blocks n) (file_meaning p.shows p.path p.blocks n) (stands (near_by near) p es fs known law agree n o) f;
}
