use Rattle.std.proofs.Common.{◌++◌, ◌≡◌, ap, refl}
use Rattle.std.specs.Prelude.{◌-◌, codes, string_bytes}
use Rattle.go_explain_core.proofs.LineLemmas.{begun, ended, more}
use Rattle.govisd_folders.specs.Telling.{faults_text, full_text, hidden_text, packages_text}
use Rattle.govisd_folders.proofs.telling.push_count.Goals as goal

pub returns : goal.returns
returns c =
    let start = string_bytes c.args.out.now in
    let p0 : string_bytes c.push_full.new.out ≡ start ++ (full_text c.args.shown) = begun start _ _ (full_text c.args.shown) refl c.in_ok-push_full.ensures in
    let p1 : string_bytes c.push_faults.new.out ≡ start ++ (full_text c.args.shown ++ (faults_text c.args.faults)) = more start _ _ (full_text c.args.shown) _ (faults_text c.args.faults) p0 refl c.in_ok-push_faults.ensures in
    let p2 : string_bytes c.push.new.text ≡ start ++ (full_text c.args.shown ++ (faults_text c.args.faults) ++ (codes " in ")) = more start _ _ (full_text c.args.shown ++ (faults_text c.args.faults)) _ (codes " in ") p1 refl c.in_ok-push.ensures in
    let p3 : string_bytes c.push_packages.new.out ≡ start ++ (full_text c.args.shown ++ (faults_text c.args.faults) ++ (codes " in ") ++ (packages_text c.args.packages)) = more start _ _ (full_text c.args.shown ++ (faults_text c.args.faults) ++ (codes " in ")) _ (packages_text c.args.packages) p2 refl c.in_ok-push_packages.ensures in
    let p4 : string_bytes c.push_hidden.new.out ≡ start ++ (full_text c.args.shown ++ (faults_text c.args.faults) ++ (codes " in ") ++ (packages_text c.args.packages) ++ (hidden_text (c.args.faults - c.args.shown))) = more start _ _ (full_text c.args.shown ++ (faults_text c.args.faults) ++ (codes " in ") ++ (packages_text c.args.packages)) _ (hidden_text (c.args.faults - c.args.shown)) p3 (ap hidden_text c.hidden_of.ensures) c.in_ok-push_hidden.ensures in
    ended c.push-2.result start _ _ (full_text c.args.shown ++ (faults_text c.args.faults) ++ (codes " in ") ++ (packages_text c.args.packages) ++ (hidden_text (c.args.faults - c.args.shown))) _ (codes "\n") p4 refl c.push-2.ensures
