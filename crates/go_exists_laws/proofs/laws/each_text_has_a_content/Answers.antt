use Rattle.go_exists_laws.proofs.Contents.{each_text_has_a_content}
use Rattle.go_exists_laws.proofs.laws.each_text_has_a_content.Goals as goal

pub returns : goal.returns
returns c = each_text_has_a_content
