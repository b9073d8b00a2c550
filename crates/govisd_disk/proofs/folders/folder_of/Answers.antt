use Rattle.std.proofs.Common.{Some, None, arith}
use Rattle.std.proofs.lemmas.Str.Pattern.{strip_prefix_char}
use Rattle.govisd_disk.proofs.FolderLemmas.{no_slash, not_begun, rest_is, slash}
use Rattle.govisd_disk.proofs.folders.folder_of.Goals as goal

pub returns-in-None : goal.returns-in-None
returns-in-None c = λ folder some is. not_begun c.args.module_path.now c.args.«package».now folder c.in-None.ensures.cases some is

pub returns-in-None-strip_prefix : goal.returns-in-None-strip_prefix
returns-in-None-strip_prefix c = λ folder some is.
    let h = c.in-Some.ensures.cases in
    no_slash c.in-Some.behind.now folder (rest_is c.args.module_path.now c.args.«package».now c.in-Some.behind.now folder h.0 h.1 h.2 some is) (strip_prefix_char 47 c.in-Some.behind.now None c.in-None-strip_prefix.ensures.cases (omega arith))

pub returns-in-Some-strip_prefix : goal.returns-in-Some-strip_prefix
returns-in-Some-strip_prefix c = λ folder some is.
    let h = c.in-Some.ensures.cases in
    slash c.in-Some.behind.now c.in-Some-strip_prefix.folder.now folder (rest_is c.args.module_path.now c.args.«package».now c.in-Some.behind.now folder h.0 h.1 h.2 some is) (strip_prefix_char 47 c.in-Some.behind.now (Some c.in-Some-strip_prefix.folder) c.in-Some-strip_prefix.ensures.cases (omega arith))
