-- The fields of answers.
use Rattle.std.specs.Prelude.{ℕ, List, [], true}
use Rattle.pon_look.specs.declared.field.Field.{Field}
use Rattle.pon_look.specs.declared.field.FieldValue.{FieldValue}
use Rattle.pon_look.specs.declared.field.FieldValue.TheVariants.{Number, Mark}

-- what a field says: its name in text, its key in JSON, and its value
pub record Said : Type 0 where
  pub words : List ℕ
  pub key : List ℕ
  pub value : FieldValue

-- what a field says
abbrev pub said : Field → Said
said f = record { words = f.words.now; key = f.key.now; value = f.value }

-- with a name in text and a key in JSON
abbrev pub keyed : List ℕ → List ℕ → FieldValue → Said
keyed name key v = record { words = name; key = key; value = v }

-- with the same name in text and in JSON
abbrev pub named : List ℕ → FieldValue → Said
named name v = keyed name name v

-- a number with the same name in text and in JSON
abbrev pub numbered : List ℕ → ℕ → Said
numbered name n = named name (Number n)

-- words that stand in text alone
abbrev pub words_alone : List ℕ → Said
words_alone words = keyed words [] (Mark true)
