-- The ranges of the overhead and of the number of Alloc-IDs under each rule.
use Rattle.std.proofs.Common.{◌≡◌, ℕ, ◌+◌, ◌*◌, ◌≤◌, refl, arith}
use Rattle.pon_units.specs.declared.limits.TheConstants.{MAX_STRUCTURES}
use Rattle.pon_admit.specs.Roster.{Rule, left_over, max_allocs, max_carry, overhead_words}
use Rattle.pon_admit.specs.declared.rule.Rule.TheVariants.{DropRemainders, CarryRemainders}

-- at least one word is set aside for the report of an Alloc-ID
pub some_overhead : (rule : Rule) → 1 ≤ overhead_words rule
some_overhead DropRemainders = omega arith
some_overhead CarryRemainders = omega arith

-- a rule allows at most as many Alloc-IDs as a map has structures
pub few_allowed : (rule : Rule) → max_allocs rule ≤ MAX_STRUCTURES
few_allowed DropRemainders = omega arith
few_allowed CarryRemainders = omega arith

-- the overhead of an Alloc-ID has room for its report and its carry
pub room_for_carry : (rule : Rule) → 256 + max_carry rule ≤ 256 * overhead_words rule
room_for_carry DropRemainders = omega arith
room_for_carry CarryRemainders = omega arith

pub carry_range : (rule : Rule) → max_carry rule ≤ 255
carry_range DropRemainders = omega arith
carry_range CarryRemainders = omega arith

-- what is left over is in range
pub left_over_range : (rule : Rule) (n : ℕ) → left_over rule n ≤ max_carry rule
left_over_range DropRemainders n = omega arith
left_over_range CarryRemainders n = omega arith

-- nothing is left of a carry in range but itself
pub left_over_same : (rule : Rule) (n : ℕ) → n ≤ max_carry rule → left_over rule n ≡ n
left_over_same DropRemainders n h = omega (arith, h)
left_over_same CarryRemainders n h = omega (arith, h)

-- what is left may be carried at any point of a sum
pub left_over_sum : (rule : Rule) (m n : ℕ) → left_over rule (left_over rule m + n) ≡ left_over rule (m + n)
left_over_sum DropRemainders m n = refl
left_over_sum CarryRemainders m n = omega arith
