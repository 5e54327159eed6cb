-- The subcommand that clap matched, and the matches of its arguments.
use Rattle.std.proofs.Common.{◌≡◌, ℕ, List, [], refl, sym, ap, ◌∙◌, true, false, subst, inl, inr, Option, Some, None}
use Rattle.std.specs.Prelude.{codes, option_map}
use Rattle.std.specs.Box.{box_value}
use Rattle.std.specs.Str.{bytes_eq}
use Rattle.std.proofs.lemmas.Slice.Eq.{bytes_eq-Decides}
use Rattle.clap.specs.Words.{subcommand_rows_of, rows_of}
use Rattle.clap.specs.Walk.{Row, first_of}
use Rattle.clap.specs.Matches.{found_of, subcommand_name_of}
use Rattle.clap.specs.Simple.{App, HasMatchesOf, subcommand_of, subcommand_rows}
use Rattle.clap.specs.Faults.{fault_of, is_simple_and_free}
use Rattle.clap.specs.Kinds.{HasKind}
use Rattle.clap.specs.Values.{kind_of}
use Rattle.clap.specs.declared.error.Error.{Error}
use Rattle.clap.specs.declared.error.kind.ErrorKind.TheVariants.{InvalidSubcommand}
use Rattle.clap.specs.declared.parser.matches.ArgMatches.{ArgMatches}
use Rattle.clap.specs.declared.parser.matches.ArgMatches.TheViews.{out-ArgMatches, out-SubCommand}
use Rattle.pon_job.specs.Jobs.{HasValues, IsAudit, IsJob, NamesNoJob, RefusesWords, olt_app, word_of}
use Rattle.pon_job.proofs.Views.{view_is_no_word}
use Rattle.pon_job.specs.declared.task.Audit.{Audit as AuditOf}
use Rattle.pon_job.specs.declared.task.Job.{Job}
use Rattle.pon_job.specs.declared.task.Job.TheVariants.{Plan, Check, Audit, Show, Migrate, Run, Units, Stop, Operate}

name_of_rows : (m : ArgMatches) → option_map (λ p. p.0) (subcommand_rows_of m) ≡ subcommand_name_of m
name_of_rows m = elim (out-ArgMatches m).subcommand as (λ o. option_map (λ p. p.0) (subcommand_rows o) ≡ option_map (λ b. (out-SubCommand (box_value b)).name.now) o) [
  | None ↦ refl
  | Some b ↦ refl
]

paired : (r : Option (List ℕ × List Row)) (name : List ℕ) (rows : List Row) → Some name ≡ option_map (λ p. p.0) r → Some rows ≡ option_map (λ p. p.1) r → Some (name, rows) ≡ r
paired None name rows n e = absurd (cc)
paired (Some met) name rows n e =
    let same_name : name ≡ met.0 = cc in
    let same_rows : rows ≡ met.1 = cc in
    ap (λ x. Some (x, rows)) same_name ∙ ap (λ x. Some (met.0, x)) same_rows

-- the name and the matches that clap returns are those of the subcommand
pub met_is : (m found : ArgMatches) (name : List ℕ) → Some name ≡ subcommand_name_of m → Some (rows_of (found_of found)) ≡ option_map (λ p. p.1) (subcommand_rows_of m) →
    Some (name, rows_of (found_of found)) ≡ subcommand_rows_of m
met_is m found name n e = paired (subcommand_rows_of m) name (rows_of (found_of found)) (n ∙ sym (name_of_rows m)) e

-- clap refuses the words
pub clap_refuses : (a : App) (words : List (List ℕ)) (e : Error) → a ≡ olt_app → (is_simple_and_free a ≡ true → HasKind (fault_of a words) e) → RefusesWords words e
clap_refuses a words e is k = inl (subst (λ a. is_simple_and_free a ≡ true → HasKind (fault_of a words) e) is k refl)

-- the job of the subcommand
pub names : (r : Option (List ℕ × List Row)) (name : List ℕ) (rows : List Row) (job : Job) → Some (name, rows) ≡ r → name ≡ word_of job → HasValues rows job → IsJob r job
names r name rows job met word values = subst (λ r. IsJob r job) met (word, values)

-- other words are not equal
pub words_differ : (a b : List ℕ) → bytes_eq a b ≡ false → a ≡ b → ⊥
words_differ a b other e = absurd (let t : true ≡ false = sym ((bytes_eq-Decides a b).1 e) ∙ other in cc)

-- `check` without a file names no job
pub no_check : (name : List ℕ) (rows : List Row) → name ≡ codes "check" → None ≡ first_of (codes "file") rows → NamesNoJob (Some (name, rows))
no_check name rows is none (Plan plan) j = words_differ (codes "check") (codes "plan") refl (sym is ∙ j.0)
no_check name rows is none (Check file) j = absurd (cc (none, j.1))
no_check name rows is none (Audit audit) j = words_differ (codes "check") (codes "audit") refl (sym is ∙ j.0)
no_check name rows is none (Show shown) j = view_is_no_word shown.view (codes "check") refl (sym j.0 ∙ is)
no_check name rows is none (Migrate migration) j = absurd (cc (none, j.1.recording))
no_check name rows is none (Run run) j = words_differ (codes "check") (codes "run") refl (sym is ∙ j.0)
no_check name rows is none (Units units) j = words_differ (codes "check") (codes "units") refl (sym is ∙ j.0)
no_check name rows is none (Stop at) j = words_differ (codes "check") (codes "stop") refl (sym is ∙ j.0)
no_check name rows is none (Operate at) j = words_differ (codes "check") (codes "operate") refl (sym is ∙ j.0)

-- `audit` without its values names no job
pub no_audit : (rows : List Row) → ((audit : AuditOf) → ¬ IsAudit rows audit) → NamesNoJob (Some (codes "audit", rows))
no_audit rows none (Plan plan) j = words_differ (codes "audit") (codes "plan") refl j.0
no_audit rows none (Check file) j = words_differ (codes "audit") (codes "check") refl j.0
no_audit rows none (Audit audit) j = none audit j.1
no_audit rows none (Show shown) j = view_is_no_word shown.view (codes "audit") refl (sym j.0)
no_audit rows none (Migrate migration) j = words_differ (codes "audit") (codes "migrate") refl j.0
no_audit rows none (Run run) j = words_differ (codes "audit") (codes "run") refl j.0
no_audit rows none (Units units) j = words_differ (codes "audit") (codes "units") refl j.0
no_audit rows none (Stop at) j = words_differ (codes "audit") (codes "stop") refl j.0
no_audit rows none (Operate at) j = words_differ (codes "audit") (codes "operate") refl j.0

-- the job of the matches is that of the words
pub job_in : (a : App) (words : List (List ℕ)) (m : ArgMatches) (job : Job) → a ≡ olt_app → HasMatchesOf a words m → IsJob (subcommand_rows_of m) job → IsJob (subcommand_of olt_app words) job
job_in a words m job is has j =
    let met = subst (λ a. HasMatchesOf a words m) is has refl in
    subst (λ r. IsJob r job) met.1 j

-- clap finds no fault in the words, and its matches name no job
pub no_job_in : (a : App) (words : List (List ℕ)) (m : ArgMatches) (e : Error) → a ≡ olt_app → kind_of e ≡ InvalidSubcommand → (is_simple_and_free a ≡ true → fault_of a words ≡ [])
    → HasMatchesOf a words m → NamesNoJob (subcommand_rows_of m) → RefusesWords words e
no_job_in a words m e is kind clean has none =
    let met = subst (λ a. HasMatchesOf a words m) is has refl in
    inr (record {
      kind = kind;
      no_fault = subst (λ a. is_simple_and_free a ≡ true → fault_of a words ≡ []) is clean refl;
      no_job = subst NamesNoJob met.1 none;
    })
