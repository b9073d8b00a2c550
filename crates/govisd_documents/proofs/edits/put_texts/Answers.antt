use Rattle.govisd_documents.proofs.FileNames.{distinct_names}
use Rattle.govisd_documents.proofs.edits.put_texts.Goals as goal

pub put-requires : goal.put-requires
put-requires c = distinct_names c.in_ok-named.named.items c.in_ok-named.ensures
