use Rattle.std.proofs.Common.{rules, ◌∙◌, inl, inr, refl, ap}
use Rattle.clap.specs.declared.error.kind.ErrorKind.TheVariants.{DisplayHelp, DisplayVersion}
use Rattle.govisd_words.specs.Asking.{ToHelp}
use Rattle.govisd_words.proofs.WordLemmas.{chosen, refused_by, refused_other, taken}
use Rattle.govisd_words.proofs.words.read_words.Goals as goal

pub returns-in-Some : goal.returns-in-Some
returns-in-Some g c =
    inl (taken _ _ c.in_ok-command.ensures c.in-Ok.ensures.kinds, c.request_of.ensures ∙ chosen _ _ c.in-Ok.matches _ _ c.in_ok-command.ensures c.in-Ok.ensures.matches c.in-Some.ensures.name c.in-Some.ensures.rows)

pub returns-in-DisplayHelp : goal.returns-in-DisplayHelp
returns-in-DisplayHelp g c =
    inr (inl (refused_by _ _ c.in-Err.error DisplayHelp c.in_ok-command.ensures c.in-Err.ensures.kinds c.in-DisplayHelp.ensures (λ e. cc), ap ToHelp c.second_command.ensures))

pub returns-in-DisplayVersion : goal.returns-in-DisplayVersion
returns-in-DisplayVersion g c =
    inr (inr (refused_by _ _ c.in-Err.error DisplayVersion c.in_ok-command.ensures c.in-Err.ensures.kinds c.in-DisplayVersion.ensures (λ e. cc), refl))

pub returns : goal.returns
returns g c = refused_other _ _ c.in-Err.error c.in_ok-command.ensures c.in-Err.ensures.kinds (search rules) (search rules)
