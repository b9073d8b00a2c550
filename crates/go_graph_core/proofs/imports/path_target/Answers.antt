use Rattle.std.proofs.Common.{◌≡◌, refl, inl, inr, get_or, Some, None}
use Rattle.go_graph_core.specs.declared.imports.Standing.TheVariants.{Library, Main, Faulty}
use Rattle.go_graph_core.proofs.Numbers.{IsNumber, number_of_position}
use Rattle.go_graph_core.proofs.Standings.{standing_at, has_standing}
use Rattle.go_graph_core.proofs.imports.path_target.Goals as goal

pub bounds : goal.bounds
bounds c =
    let found : IsNumber c.args.packages.now c.args.path.now c.in-Some.number = number_of_position c.args.packages.now c.args.paths.now c.as_str.result.now c.args.path.now (Some c.in-Some.number) c.requires.paths c.as_str.ensures.text c.in-Some.ensures in
    has_standing c.args.packages.now c.args.standings.now c.args.path.now c.in-Some.number found.0 c.requires.standings found.1

pub returns-in-Faulty : goal.returns-in-Faulty
returns-in-Faulty c =
    let found : IsNumber c.args.packages.now c.args.path.now c.in-Some.number = number_of_position c.args.packages.now c.args.paths.now c.as_str.result.now c.args.path.now (Some c.in-Some.number) c.requires.paths c.as_str.ensures.text c.in-Some.ensures in
    let is : get_or c.args.standings.now c.in-Some.number Library ≡ Faulty = c.in-Faulty.is in
    let stands = standing_at c.args.packages.now c.args.standings.now c.args.path.now c.in-Some.number found.0 Library Faulty c.requires.standings found.1 is in
    inr (inr (inr (inl (record { is = refl; allowed = (c.as_str.ensures.path, c.may_import_text.ensures.0 c.if-not-may_import_text.false); number = c.in-Some.number; files = found.0; numbered = found.1; faulty = stands }))))

pub returns-in-Main : goal.returns-in-Main
returns-in-Main c =
    let found : IsNumber c.args.packages.now c.args.path.now c.in-Some.number = number_of_position c.args.packages.now c.args.paths.now c.as_str.result.now c.args.path.now (Some c.in-Some.number) c.requires.paths c.as_str.ensures.text c.in-Some.ensures in
    let is : get_or c.args.standings.now c.in-Some.number Library ≡ Main = c.in-Main.is in
    let stands = standing_at c.args.packages.now c.args.standings.now c.args.path.now c.in-Some.number found.0 Library Main c.requires.standings found.1 is in
    inr (inr (inr (inr (record { is = refl; allowed = (c.as_str.ensures.path, c.may_import_text.ensures.0 c.if-not-may_import_text.false); number = c.in-Some.number; files = found.0; numbered = found.1; program = stands }))))

pub returns-in-Library : goal.returns-in-Library
returns-in-Library c =
    let found : IsNumber c.args.packages.now c.args.path.now c.in-Some.number = number_of_position c.args.packages.now c.args.paths.now c.as_str.result.now c.args.path.now (Some c.in-Some.number) c.requires.paths c.as_str.ensures.text c.in-Some.ensures in
    let is : get_or c.args.standings.now c.in-Some.number Library ≡ Library = c.in-Library.is in
    let stands = standing_at c.args.packages.now c.args.standings.now c.args.path.now c.in-Some.number found.0 Library Library c.requires.standings found.1 is in
    record { allowed = (c.as_str.ensures.path, c.may_import_text.ensures.0 c.if-not-may_import_text.false); files = found.0; numbered = found.1; library = stands }

pub returns-in_default : goal.returns-in_default
returns-in_default c = inr (inr (inl (record { is = refl; allowed = (c.as_str.ensures.path, c.may_import_text.ensures.0 c.if-not-may_import_text.false); nowhere = number_of_position c.args.packages.now c.args.paths.now c.as_str.result.now c.args.path.now None c.requires.paths c.as_str.ensures.text c.in_default.ensures })))
