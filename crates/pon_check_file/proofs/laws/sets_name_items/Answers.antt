use Rattle.pon_check_file.proofs.NamedItems.{sets_name_items}
use Rattle.pon_check_file.proofs.laws.sets_name_items.Goals as goal

pub returns : goal.returns
returns c = sets_name_items
