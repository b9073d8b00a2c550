use Rattle.go_spec_laws.proofs.FrontImportForms as law
use Rattle.go_spec_laws.proofs.front.import_laws.imports_bind_by_form.Goals as goal

pub returns : goal.returns
returns c = law.imports_bind_by_form
