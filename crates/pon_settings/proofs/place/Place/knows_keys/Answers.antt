use Rattle.std.proofs.Common.{◌∙◌, string_bytes, rules, tests}
use Rattle.std.proofs.lemmas.Iterator.Consumers.{YieldsList-from_rest}
use Rattle.std.proofs.lemmas.Iterator.Search.{all_from_yields_List}
use Rattle.std.specs.Map.{keys_of as map_keys}
use Rattle.pon_settings.specs.Keys.{is_known}
use Rattle.pon_settings.proofs.Members.{same_keys}
use Rattle.pon_settings.proofs.place.Place.knows_keys.Goals as goal

pub returns : goal.returns
returns c =
    all_from_yields_List (λ k. is_known c.args.self (string_bytes k)) _ _ _ c.all.ensures.ran (YieldsList-from_rest (map_keys c.args.table.now.entries) c.keys.ensures.rest) (λ x b q k. search (rules, tests))
    ∙ same_keys (is_known c.args.self) c.args.table.now.entries
