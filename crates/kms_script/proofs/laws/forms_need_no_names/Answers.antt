use Rattle.kms_script.proofs.FormsAlike.{forms_alike}
use Rattle.kms_script.proofs.laws.forms_need_no_names.Goals as goal

pub returns : goal.returns
returns c = forms_alike
