-- The subcommands of the views of a recording, and the matches of a view.
use Rattle.std.proofs.Common.{◌≡◌, ℕ, Bool, List, Some, None, ◌∙◌, ap, refl, subst, sym, true, false}
use Rattle.std.proofs.lemmas.List.{length-map}
use Rattle.std.proofs.lemmas.Option.{same_Some}
use Rattle.std.specs.Prelude.{◌||◌, codes, length, map}
use Rattle.std.specs.Borrow.{Bor}
use Rattle.std.specs.Str.{bytes_eq}
use Rattle.clap.specs.Walk.{Row, all_of, first_of}
use Rattle.pon_job.specs.Jobs.{AreJoinedOrOne, HasFlag, IsFormat, IsPart, IsShown, NamesNoJob, word_of_view}
use Rattle.pon_job.specs.declared.task.Part.{Part}
use Rattle.pon_job.specs.declared.task.Show.{Show as Shown}
use Rattle.pon_job.specs.declared.task.View.{View}
use Rattle.pon_job.specs.declared.task.View.TheVariants.{Info, Rates, Why, Dump, Picture, Loads}
use Rattle.pon_job.specs.declared.task.Job.TheVariants.{Plan, Check, Audit, Show, Migrate, Run, Units, Stop, Operate}

-- a word is one of the views'
abbrev pub is_view : List ℕ → Bool
is_view word = bytes_eq (codes "info") word || (bytes_eq (codes "rates") word || (bytes_eq (codes "why") word || (bytes_eq (codes "dump") word || (bytes_eq (codes "picture") word || bytes_eq (codes "loads") word))))

viewed : (view : View) (word : List ℕ) → word_of_view view ≡ word → is_view word ≡ true
viewed Info word e = subst (λ w. is_view w ≡ true) e refl
viewed Rates word e = subst (λ w. is_view w ≡ true) e refl
viewed Why word e = subst (λ w. is_view w ≡ true) e refl
viewed Dump word e = subst (λ w. is_view w ≡ true) e refl
viewed Picture word e = subst (λ w. is_view w ≡ true) e refl
viewed Loads word e = subst (λ w. is_view w ≡ true) e refl

-- another word is of no view
pub view_is_no_word : (view : View) (word : List ℕ) → is_view word ≡ false → word_of_view view ≡ word → ⊥
view_is_no_word view word other e = absurd (let t : true ≡ false = sym (viewed view word e) ∙ other in cc)

-- without its values there is no view
no_view : (view : View) (rows : List Row) → ((shown : Shown) → ¬ IsShown rows shown) → NamesNoJob (Some (word_of_view view, rows))
no_view view rows none (Plan plan) j = view_is_no_word view (codes "plan") refl j.0
no_view view rows none (Check file) j = view_is_no_word view (codes "check") refl j.0
no_view view rows none (Audit audit) j = view_is_no_word view (codes "audit") refl j.0
no_view view rows none (Show shown) j = none shown j.1
no_view view rows none (Migrate migration) j = view_is_no_word view (codes "migrate") refl j.0
no_view view rows none (Run run) j = view_is_no_word view (codes "run") refl j.0
no_view view rows none (Units units) j = view_is_no_word view (codes "units") refl j.0
no_view view rows none (Stop at) j = view_is_no_word view (codes "stop") refl j.0
no_view view rows none (Operate at) j = view_is_no_word view (codes "operate") refl j.0

pub without_recordings : (view : View) (rows : List Row) → None ≡ all_of (codes "file") rows → NamesNoJob (Some (word_of_view view, rows))
without_recordings view rows none = no_view view rows (λ shown is. absurd (cc (none, is.recordings)))

-- two values of a flag are equal
one_value : (id : List ℕ) (rows : List Row) (a b : Bool) → HasFlag id rows a → HasFlag id rows b → a ≡ b
one_value id rows true b ha hb = sym (hb.1 (ha.0 refl))
one_value id rows false true ha hb = absurd (let t : false ≡ true = ha.1 (hb.0 refl) in cc)
one_value id rows false false ha hb = refl

-- without the flag there is one file
pub without_flag : (view : View) (rows : List Row) (names : List (Bor (List ℕ))) (joined : Bool) → Some (map (λ name. name.now) names) ≡ all_of (codes "file") rows → HasFlag (codes "joined") rows joined
    → ¬ AreJoinedOrOne joined (length names) → NamesNoJob (Some (word_of_view view, rows))
without_flag view rows names joined met has other = no_view view rows (λ shown is. other (λ e.
    let same = one_value (codes "joined") rows joined shown.joined has is.joins in
    let files : map (λ name. name.now) names ≡ map (λ name. name.now) shown.files.items = same_Some _ _ (met ∙ is.recordings) in
    sym (length-map names _) ∙ ap length files ∙ length-map shown.files.items _ ∙ is.one (sym same ∙ e)))

pub without_part : (view : View) (rows : List Row) → ((part : Part) → ¬ IsPart rows part) → NamesNoJob (Some (word_of_view view, rows))
without_part view rows none = no_view view rows (λ shown is. none shown.part is.selection)

pub without_format : (view : View) (rows : List Row) → ((json : Bool) → ¬ IsFormat (first_of (codes "format") rows) json) → NamesNoJob (Some (word_of_view view, rows))
without_format view rows none = no_view view rows (λ shown is. none shown.json is.format)
