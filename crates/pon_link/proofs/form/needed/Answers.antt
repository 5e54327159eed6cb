use Rattle.std.proofs.Common.{◌≡◌, ℕ, ◌+◌, ◌-◌, ◌≤◌, length, Option, MatchOption, arith, subst}
use Rattle.pon_link.specs.Reading.{Announces, HasBadSize, header_len}
use Rattle.pon_lists.specs.Bytes.{AreBytes}
use Rattle.pon_link.proofs.Sizes.{some_size, more_needed, told_enough}
use Rattle.pon_link.proofs.form.needed.Goals as goal

pub unwrap-requires : goal.unwrap-requires
unwrap-requires c =
    let ge : header_len c.args.direction ≤ length c.args.bytes.now = omega (arith, c.header_len-head.ensures.value, c.if-bytes-head.false) in
    let size = c.requires.form.size ge in
    some_size c.announced_size.result c.args.direction c.args.bytes.now size.0 size.1 c.announced_size.ensures

-- the bytes give this size, and are not longer
enough : (c : goal.After-unwrap) → Announces c.args.direction c.args.bytes.now c.unwrap.result × (length c.args.bytes.now ≤ c.unwrap.result)
enough c =
    let ge : header_len c.args.direction ≤ length c.args.bytes.now = omega (arith, c.header_len-head.ensures.value, c.if-bytes-head.false) in
    let told : Announces c.args.direction c.args.bytes.now c.unwrap.result
    = subst (λ (o : Option ℕ). MatchOption o (HasBadSize c.args.direction c.args.bytes.now) (Announces c.args.direction c.args.bytes.now)) c.unwrap.ensures c.announced_size.ensures in
    let small : AreBytes c.args.bytes.now = λ k. omega (arith, c.type_inv.bytes k) in
    (told, told_enough c.args.direction c.args.bytes.now c.unwrap.result small ge told c.requires.within)

pub overflow_sub-result-2 : goal.overflow_sub-result-2
overflow_sub-result-2 c = (enough c).1

pub returns-clause-told : goal.returns-clause-told
returns-clause-told c _ =
    let le = (enough c).1 in
    let all : c.unwrap.result ≡ length c.args.bytes.now + (c.unwrap.result - length c.args.bytes.now) = omega (arith, le) in
    subst (λ (n : ℕ). Announces c.args.direction c.args.bytes.now n) all (enough c).0

pub returns-clause-more : goal.returns-clause-more
returns-clause-more c begun =
    let ge : header_len c.args.direction ≤ length c.args.bytes.now = omega (arith, c.header_len-head.ensures.value, c.if-bytes-head.false) in
    let small : AreBytes c.args.bytes.now = λ k. omega (arith, c.type_inv.bytes k) in
    let lt = more_needed c.args.direction c.args.bytes.now c.unwrap.result small ge (enough c).0 begun in
    omega (arith, lt)
