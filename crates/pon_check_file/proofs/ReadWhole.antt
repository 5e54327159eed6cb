-- A file that parses is a class problem.
use Rattle.std.proofs.Common.{◌≡◌, ℕ, ◌+◌, ◌≤◌, Bool, List, [], ◌∷◌, length, drop, refl, subst, Option, Some, None, Result, Ok, Err}
use Rattle.std.proofs.lemmas.List.Elements.{All-from_recursion}
use Rattle.pon_cert.specs.declared.problem.TheConstants.{MAX_ITEMS}
use Rattle.pon_units.specs.declared.limits.TheConstants.{LINE_RATE}
use Rattle.pon_lists.specs.ResultSteps.{◌>>=◌}
use Rattle.pon_cert.specs.declared.problem.Item.{Item}
use Rattle.pon_cert.specs.declared.cert.Level.{Level}
use Rattle.pon_cert.specs.Problem.{IsItem, IsProblem}
use Rattle.pon_check_file.specs.CheckLines.{surplus_of, level_on_line, flags_of}
use Rattle.pon_check_file.specs.CheckFiles.{Filed, are_empty, file_of, file_with, first_spells, items_of, on_line}
use Rattle.pon_check_file.proofs.ReadFiles.{items_read, surplus_range}
use Rattle.pon_check_file.proofs.UnfitLines.{row, with_end, with_level}

end_read : (s : ℕ) (items : List Item) (level : Level) (flags : List Bool) (f : Filed) → IsProblem items s → (r : Result (Unit {0}) ℕ) → with_end s items level flags r ≡ Ok f → IsProblem f.items f.surplus
end_read s items level flags f p (Err n) e = absurd (cc)
end_read s items level flags f p (Ok t) e =
    let same : record { surplus = s; items = items; cert = record { level = level; saturated = flags } } ≡ f = cc in
    subst (λ (g : Filed). IsProblem g.items g.surplus) same p

first_read : {T : Type 0} (P : T → Type 0) (read : List ℕ → Option T) → ((l : List ℕ) (x : T) → read l ≡ Some x → P x) → (ls : List (List ℕ)) (x : T) → first_spells read ls ≡ Some x → P x
first_read P read one [] x e = absurd (cc)
first_read P read one (l ∷ ls) x e = one l x e

after_read : (s : ℕ) (items : List Item) (ls : List (List ℕ)) (f : Filed) → IsProblem items s → file_with s items ls ≡ Ok f → IsProblem f.items f.surplus
unfolding file_with
after_read s items ls f p e = at_level (first_spells level_on_line ls) refl e
  where
    at_set : (level : Level) → first_spells level_on_line ls ≡ Some level → (o : Option (List Bool)) → first_spells (flags_of (length items)) (drop 1 ls) ≡ o →
        (on_line (length items + 3) o >>= λ flags. with_end s items level flags (are_empty (length items + 4) (drop 2 ls))) ≡ Ok f → IsProblem f.items f.surplus
    at_set level is None none e = absurd (cc)
    at_set level is (Some flags) some e =
        end_read s items level flags f p (are_empty (length items + 4) (drop 2 ls)) e

    at_level : (o : Option Level) → first_spells level_on_line ls ≡ o → with_level s items ls o ≡ Ok f → IsProblem f.items f.surplus
    at_level None none e = absurd (cc)
    at_level (Some level) is e = at_set level is (first_spells (flags_of (length items)) (drop 1 ls)) refl e

pub read_is_problem : (ls : List (List ℕ)) (f : Filed) → file_of ls ≡ Ok f → IsProblem f.items f.surplus
unfolding file_of
read_is_problem ls f e = at_surplus (first_spells surplus_of ls) refl e
  where
    at_surplus : (o : Option ℕ) → first_spells surplus_of ls ≡ o → (on_line 1 o >>= λ s. file_with s (items_of (drop 1 ls)) (drop (length (items_of (drop 1 ls))) (drop 1 ls))) ≡ Ok f → IsProblem f.items f.surplus
    at_surplus None is e = absurd (cc)
    at_surplus (Some s) is e =
        let r = row MAX_ITEMS (drop 1 ls) in
        after_read s (items_of (drop 1 ls)) (drop (length (items_of (drop 1 ls))) (drop 1 ls)) f
        (record {
          count = r.count;
          each = All-from_recursion IsItem (items_of (drop 1 ls)) (items_read r.lines (items_of (drop 1 ls)) r.are_items);
          surplus_range = first_read (λ s. s ≤ LINE_RATE) surplus_of surplus_range ls s is;
        }) e
