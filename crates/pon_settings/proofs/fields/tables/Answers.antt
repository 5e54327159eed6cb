use Rattle.std.proofs.Common.{◌≡◌, ◌∙◌, sym, rules, tests}
use Rattle.std.specs.Prelude.{is_some, Some}
use Rattle.std.specs.List.{list_all}
use Rattle.std.proofs.lemmas.Iterator.{YieldsList-from_slice}
use Rattle.std.proofs.lemmas.Iterator.Search.{all_from_yields_List}
use Rattle.toml.specs.Data.{as_table, as_array}
use Rattle.toml.specs.View.{view, items_view}
use Rattle.pon_settings.proofs.Members.{tables_of, all_view}
use Rattle.pon_settings.proofs.fields.tables.Goals as goal

pub returns-then-all : goal.returns-then-all
returns-then-all c =
    let vs = c.in-Some.values.now.items in
    let is : Some (items_view vs) ≡ as_array (view c.args.value.now) = search rules in
    let test : c.all.result ≡ list_all (λ v. is_some (as_table (view v))) vs =
    all_from_yields_List (λ v. is_some (as_table (view v))) _ _ c.all.result c.all.ensures.ran (YieldsList-from_slice vs (search rules)) (λ x b q k. search (rules, tests)) in
    let yes = sym (all_view (λ d. is_some (as_table d)) vs) ∙ sym test ∙ c.if-all.true in
    rw (c.as_slice.ensures.value, tables_of (view c.args.value.now) vs is, yes)

pub returns-else-all : goal.returns-else-all
returns-else-all c =
    let vs = c.in-Some.values.now.items in
    let is : Some (items_view vs) ≡ as_array (view c.args.value.now) = search rules in
    let test : c.all.result ≡ list_all (λ v. is_some (as_table (view v))) vs =
    all_from_yields_List (λ v. is_some (as_table (view v))) _ _ c.all.result c.all.ensures.ran (YieldsList-from_slice vs (search rules)) (λ x b q k. search (rules, tests)) in
    let no = sym (all_view (λ d. is_some (as_table d)) vs) ∙ sym test ∙ c.if-all.false in
    rw (tables_of (view c.args.value.now) vs is, no)
