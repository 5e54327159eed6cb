-- A chapter of one admission and one map: a fixed rate of 255 kbit/s gets no word in it.
use Rattle.std.proofs.Common.{◌≡◌, ℕ, zero, suc, true, ◌+◌, ◌*◌, ◌/◌, ◌<◌, [], ◌∷◌, refl, subst, arith, ◌≤◌, lit<, lit≤}
use Rattle.std.specs.Prelude.{Some}
use Rattle.std.proofs.lemmas.List.Elements.{All-nil}
use Rattle.std.proofs.lemmas.Option.{same_Some}
use Rattle.pon_descr.specs.Descriptor.{Descriptor}
use Rattle.pon_descr.specs.declared.class.Class.TheVariants.{Plain}
use Rattle.pon_admit.specs.declared.event.Event.TheVariants.{Admit, MakeMap}
use Rattle.pon_admit.specs.declared.row.Row.{Row}
use Rattle.pon_admit.specs.declared.rule.Rule.TheVariants.{CarryRemainders}
use Rattle.pon_admit.specs.Roster.{IsInRange, has_alloc}
use Rattle.pon_guar.specs.Window.{IsLawfulMap}
use Rattle.pon_cert.specs.declared.cert.Level.TheVariants as level
use Rattle.pon_cert.specs.declared.cert.ClassCert.{ClassCert}
use Rattle.pon_cert.specs.declared.cert.MapCert.{MapCert}
use Rattle.pon_demand.specs.Maps.{map_of}
use Rattle.pon_demand.specs.Sharing.{surplus_rate}
use Rattle.pon_state.specs.After.{after_entry}
use Rattle.pon_state.specs.Entry.{Entry}
use Rattle.pon_state.specs.LawfulStates.{AccountIsLawful, IsLawfulState}
use Rattle.pon_state.specs.Legal.{MayFollow}
use Rattle.pon_state.specs.State.{State, carry_at, input_of, opened_under}
use Rattle.pon_state.specs.declared.reply.MadeMap.{MadeMap}
use Rattle.pon_state.specs.declared.reply.Reply.TheVariants.{Taken, Map}
use Rattle.pon_history.specs.Chapters.{Chapter, IsLawfulChapter, IsLegal}
use Rattle.pon_sure.specs.Sure.{maps_for_a_word}
use Rattle.pon_laws.specs.Exact.{IsBelow, exact_over}
use Rattle.pon_laws.specs.Runs.{BeforeEach, BeforeMaps, IsShortOfAWord, descriptor_of, guaranteed_of, maps_over, rates_over, run_of, words_over}

abbrev pub descriptor : Descriptor
descriptor = record { fixed = 255; assured = 0; max = 255; class = Plain }

abbrev row : Row
row = record { onu = 0; alloc_id = 1024; descriptor = descriptor }

abbrev opening : State
opening = opened_under CarryRemainders 20 0 0

abbrev admission : Entry
admission = record { event = Admit row; reply = Taken }

abbrev admitted : State
admitted = after_entry opening admission

abbrev all : ClassCert
all = record { level = level.All; saturated = [] }

abbrev cert : MapCert
cert = record { na = all; be = all }

abbrev made : MadeMap
made = record { frame = 0; map = map_of 0 (input_of admitted) (surplus_rate (input_of admitted) cert) (carry_at admitted); cert = cert }

abbrev mapping : Entry
mapping = record { event = MakeMap; reply = Map made }

abbrev pub chapter : Chapter
chapter = record { number = 0; opening = opening; entries = admission ∷ mapping ∷ [] }

opens : IsLawfulState opening
opens = record {
  numbers = record { shortest_gap = lit≤ tt; longest_gap = lit≤ tt; profile = lit≤ tt; next = lit< tt; taken_before = lit< tt };
  admitted = record { in_map_order = tt; apart = tt; in_range = All-nil IsInRange; few_allocs = lit≤ tt; few_onus = lit≤ tt; short_series = λ u. omega arith; fitting = refl };
  book = (tt, λ i. refl);
  carries = record { count = refl; range = All-nil (λ (c : ℕ). c ≤ 255) };
  accounts = All-nil (AccountIsLawful opening);
  few_maps = lit≤ tt;
  frames = tt;
  maps = All-nil IsLawfulMap;
  failed = tt;
}

in_range : IsInRange row
in_range = record { onu = lit≤ tt; managed = lit≤ tt; alloc_id = lit≤ tt; descriptor = record { in_range = lit≤ tt; enough = lit≤ tt; class = tt } }

first : MayFollow 0 opening admission
first = record { event = in_range; accepted = refl; reply = refl }

second : MayFollow 1 admitted mapping
second = record {
  event = tt;
  accepted = refl;
  reply = record {
    frame = refl;
    certified = record { non_assured = record { denominator = tt; rules = tt; total = omega arith }; best_effort = record { denominator = tt; rules = tt; total = omega arith } };
    map = refl;
  };
}

legal : IsLegal chapter
legal zero e at = subst (MayFollow 0 opening) (same_Some admission e at) first
legal (suc zero) e at = subst (MayFollow 1 admitted) (same_Some mapping e at) second
legal (suc (suc k)) e at = absurd cc

lawful : IsLawfulChapter chapter
lawful = record { opening = record { first = λ is. (CarryRemainders, 20, 0, 0, refl); state = opens }; legal = legal }

kept : BeforeEach (λ s. descriptor_of s.roster 1024 ≡ Some descriptor) (run_of chapter 1 1)
kept zero lt = refl
kept (suc k) lt = absurd (omega (arith, lt))

guaranteed : BeforeMaps (λ s. 255 ≤ guaranteed_of s 1024) (run_of chapter 1 1)
guaranteed zero e at makes = lit≤ tt
guaranteed (suc k) e at makes = absurd cc

pub short : IsShortOfAWord chapter 1 1024 descriptor
short = record { lawful = lawful; rule = refl; kept = kept; fixed = refl; guaranteed = guaranteed; maps = refl; rates = refl; words = refl }

-- What the laws do not say, since this chapter shows that it is false.

-- the words of a fixed rate are not rounded up
not_rounded_up : ((c : Chapter) → IsLawfulChapter c → c.opening.rule ≡ CarryRemainders → (from count i : ℕ) (d : Descriptor) → BeforeEach (λ s. descriptor_of s.roster i ≡ Some d) (run_of c from count) →
    (maps_over (run_of c from count) * d.fixed + 255) / 256 ≤ words_over (run_of c from count) i) → ⊥
not_rounded_up claim = let bad : 1 ≤ 0 = claim chapter lawful refl 1 1 1024 descriptor kept in omega (arith, bad)

-- 255 kbit/s make no word
not_a_word : ((c : Chapter) → IsLawfulChapter c → c.opening.rule ≡ CarryRemainders → (from count i rate : ℕ) → BeforeEach (λ s. has_alloc i s.roster ≡ true) (run_of c from count) →
    BeforeMaps (λ s. rate ≤ guaranteed_of s i) (run_of c from count) → 255 ≤ maps_over (run_of c from count) * rate → 0 < words_over (run_of c from count) i) → ⊥
not_a_word claim = let bad : 0 < 0 = claim chapter lawful refl 1 1 1024 255 there guaranteed (lit≤ tt) in omega (arith, bad)
  where
    there : BeforeEach (λ s. has_alloc 1024 s.roster ≡ true) (run_of chapter 1 1)
    there zero lt = refl
    there (suc k) lt = absurd (omega (arith, lt))

-- a rounding error of 255 kbit/s occurs
not_below_255 : ((c : Chapter) → IsLawfulChapter c → c.opening.rule ≡ CarryRemainders → (from count i : ℕ) → BeforeEach (λ s. has_alloc i s.roster ≡ true) (run_of c from count) →
    rates_over (run_of c from count) i < words_over (run_of c from count) i * 256 + 255) → ⊥
not_below_255 claim = let bad : 255 < 255 = claim chapter lawful refl 1 1 1024 there in omega (arith, bad)
  where
    there : BeforeEach (λ s. has_alloc 1024 s.roster ≡ true) (run_of chapter 1 1)
    there zero lt = refl
    there (suc k) lt = absurd (omega (arith, lt))

-- nor are the exact rates above the words by less than 254 kbit/s and 1 kbit/s for each map
not_below_254 : ((c : Chapter) → IsLawfulChapter c → c.opening.rule ≡ CarryRemainders → (from count i : ℕ) → BeforeEach (λ s. has_alloc i s.roster ≡ true) (run_of c from count) →
    0 < maps_over (run_of c from count) → IsBelow (exact_over (run_of c from count) i) (words_over (run_of c from count) i * 256 + 254 + maps_over (run_of c from count))) → ⊥
not_below_254 claim = let bad : 255 < 255 = claim chapter lawful refl 1 1 1024 there (lit< tt) in omega (arith, bad)
  where
    there : BeforeEach (λ s. has_alloc 1024 s.roster ≡ true) (run_of chapter 1 1)
    there zero lt = refl
    there (suc k) lt = absurd (omega (arith, lt))

-- 255 kbit/s make no word in one map less than 256 / 255, rounded up
not_a_map_less : ((c : Chapter) → IsLawfulChapter c → c.opening.rule ≡ CarryRemainders → (from count i rate : ℕ) → BeforeEach (λ s. has_alloc i s.roster ≡ true) (run_of c from count) →
    BeforeMaps (λ s. rate ≤ guaranteed_of s i) (run_of c from count) → 0 < rate → maps_for_a_word rate ≤ maps_over (run_of c from count) + 1 → 0 < words_over (run_of c from count) i) → ⊥
not_a_map_less claim = let bad : 0 < 0 = claim chapter lawful refl 1 1 1024 255 there guaranteed (lit< tt) (lit≤ tt) in omega (arith, bad)
  where
    there : BeforeEach (λ s. has_alloc 1024 s.roster ≡ true) (run_of chapter 1 1)
    there zero lt = refl
    there (suc k) lt = absurd (omega (arith, lt))
