-- Worked class problems: what the laws of shares do not say, since it is false.
use Rattle.std.proofs.Common.{◌≡◌, ℕ, ◌*◌, ◌<◌, List, [], ◌∷◌, true, false, Bool, refl, lit<, lit≤}
use Rattle.std.specs.Prelude.{sum}
use Rattle.pon_cert.specs.declared.problem.Item.{Item}
use Rattle.pon_cert.specs.declared.cert.Level.TheVariants as level
use Rattle.pon_cert.specs.declared.cert.ClassCert.{ClassCert}
use Rattle.pon_cert.specs.Certificate.{IsCertificate, spelled}
use Rattle.pon_laws.specs.Growth.{Grows, rate_at}

abbrev item : ℕ → ℕ → Item
item weight cap = record { weight = weight; cap = cap }

abbrev at : ℕ → List Bool → ClassCert
at p flags = record { level = level.At (record { num = p; den = 1 }); saturated = flags }

-- a surplus of 100 over (weight, cap) (1, 10) and (1, 100): 10 and 90
two : IsCertificate (item 1 10 ∷ item 1 100 ∷ []) 100 (at 90 (true ∷ false ∷ []))
two = record { denominator = (lit< tt, refl); rules = (lit≤ tt, (lit< tt, tt)); total = refl }

-- the item that gets its cap gets less than its weighted part of 50
below_part : (rate_at (item 1 10 ∷ item 1 100 ∷ []) (at 90 (true ∷ false ∷ [])) 0).num * 2 < 100 * 1
below_part = lit< tt

-- and less for its weight than the other
outdone : (rate_at (item 1 10 ∷ item 1 100 ∷ []) (at 90 (true ∷ false ∷ [])) 0).num * 1 < (rate_at (item 1 10 ∷ item 1 100 ∷ []) (at 90 (true ∷ false ∷ [])) 1).num * 1
outdone = lit< tt

-- with a cap of 50 in place of 10: 50 and 50
two_grown : IsCertificate (item 1 50 ∷ item 1 100 ∷ []) 100 (at 50 (true ∷ false ∷ []))
two_grown = record { denominator = (lit< tt, refl); rules = (lit≤ tt, (lit< tt, tt)); total = refl }

grown : Grows (item 1 10) (item 1 50)
grown = record { weight = lit≤ tt; cap = lit≤ tt }

-- the other item gets less than before, and the level falls
other_falls : (rate_at (item 1 50 ∷ item 1 100 ∷ []) (at 50 (true ∷ false ∷ [])) 1).num < (rate_at (item 1 10 ∷ item 1 100 ∷ []) (at 90 (true ∷ false ∷ [])) 1).num
other_falls = lit< tt

-- a surplus of 100 over a cap of 10: 90 are idle
alone : IsCertificate (item 1 10 ∷ []) 100 (record { level = level.All; saturated = true ∷ [] })
alone = record { denominator = tt; rules = (refl, tt); total = lit≤ tt }

idle : sum (spelled (item 1 10 ∷ []) (record { level = level.All; saturated = true ∷ [] })).amounts < 100
idle = lit< tt

-- two equal items of which each gets exactly its weighted part, below its cap
exact : IsCertificate (item 1 100 ∷ item 1 100 ∷ []) 100 (record { level = level.At (record { num = 100; den = 2 }); saturated = false ∷ false ∷ [] })
exact = record { denominator = (lit< tt, refl); rules = (lit< tt, (lit< tt, tt)); total = refl }

-- neither gets more than its weighted part
no_more_than_part : (rate_at (item 1 100 ∷ item 1 100 ∷ []) (record { level = level.At (record { num = 100; den = 2 }); saturated = false ∷ false ∷ [] }) 0).num * 2 ≡ 100 * 1 * 2
no_more_than_part = refl
