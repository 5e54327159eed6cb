-- Formats of bytes: how a value is written, and how it is read from the front of bytes. A format is composed of its
-- parts, in both directions.
use Rattle.std.specs.Prelude.{◌≡◌, ℕ, zero, suc, ◌^◌, ◌<◌, ◌≤◌, Bool, nat_le, nat_lt, ◌==◌, if◌then◌else◌, List, [], ◌∷◌, ◌++◌, length, take, drop, Option, Some, None}
use Rattle.std.specs.Int.{Width, byte_len, from_be_bytes, to_be_bytes}
use Rattle.std.specs.List.{flat_map, AllByRecursion}
use Rattle.pon_lists.specs.OptionSteps.{◌>>=◌}

pub record Format (A : Type 0) : Type 1 where
  -- the values that the format can represent
  pub Fits : A → Type 0
  pub write : A → List ℕ
  -- the value at the front of the bytes, and the bytes after it
  pub read : List ℕ → Option (A × List ℕ)

-- a number of this width, most significant byte first
abbrev pub number : Width → Format ℕ
number w = record {
  Fits = λ n. n < 256 ^ byte_len w;
  write = to_be_bytes w;
  read = λ bytes. if nat_lt (length bytes) (byte_len w) then None else Some (from_be_bytes w (take (byte_len w) bytes), drop (byte_len w) bytes);
}

-- one value, then another
infixr 20 ◌&◌
abbrev pub ◌&◌ : {A B : Type 0} → Format A → Format B → Format (A × B)
f & g = record {
  Fits = λ x. f.Fits x.0 × g.Fits x.1;
  write = λ x. f.write x.0 ++ g.write x.1;
  read = λ bytes. f.read bytes >>= λ a. g.read a.1 >>= λ b. Some ((a.0, b.0), b.1);
}

-- a value that is represented by another, its code; not every code has a meaning
abbrev pub told_by : {A B : Type 0} → (A → Option B) → (B → A) → Format A → Format B
told_by meaning code f = record {
  Fits = λ x. f.Fits (code x) × (meaning (code x) ≡ Some x);
  write = λ x. f.write (code x);
  read = λ bytes. f.read bytes >>= λ a. meaning a.0 >>= λ b. Some (b, a.1);
}

-- every code has a meaning
abbrev pub as_value : {A B : Type 0} → (A → B) → A → Option B
as_value f x = Option.Some (f x)

-- only the values that pass a test
abbrev pub passing : {A : Type 0} → (A → Bool) → A → Option A
passing test x = if test x then Some x else None

abbrev pub only : {A : Type 0} → (A → Bool) → Format A → Format A
only test f = told_by (passing test) (λ x. x) f

-- n values, one after another
abbrev pub read_times : {A : Type 0} → Format A → ℕ → List ℕ → Option (List A × List ℕ)
read_times f zero bytes = Some ([], bytes)
read_times f (suc n) bytes = f.read bytes >>= λ first. read_times f n first.1 >>= λ others. Some (first.0 ∷ others.0, others.1)

-- a count that is at most `most`, and this number of values
abbrev pub counted : {A : Type 0} → Format ℕ → ℕ → Format A → Format (List A)
counted count most f = record {
  Fits = λ xs. count.Fits (length xs) × (length xs ≤ most) × AllByRecursion f.Fits xs;
  write = λ xs. count.write (length xs) ++ flat_map f.write xs;
  read = λ bytes. (only (λ n. nat_le n most) count).read bytes >>= λ n. read_times f n.0 n.1;
}

-- a value, and then one whose format depends on it
abbrev pub followed : {A B : Type 0} → Format A → (A → Format B) → Format (A × B)
followed f g = record {
  Fits = λ x. f.Fits x.0 × (g x.0).Fits x.1;
  write = λ x. f.write x.0 ++ (g x.0).write x.1;
  read = λ bytes. f.read bytes >>= λ a. (g a.0).read a.1 >>= λ b. Some ((a.0, b.0), b.1);
}

-- no bytes, for a value that is known
abbrev pub constant : {A : Type 0} → A → Format A
constant a = record { Fits = λ x. x ≡ a; write = λ x. []; read = λ bytes. Some (a, bytes) }

-- the value, if no byte follows it
abbrev pub all_of : {A : Type 0} → Option (A × List ℕ) → Option A
all_of None = None
all_of (Some x) = if length x.1 == 0 then Some x.0 else None

-- the number of bytes of a value, and these bytes
abbrev pub sized : {A : Type 0} → Width → Format A → Format A
sized w f = record {
  Fits = λ x. f.Fits x × (length (f.write x) < 256 ^ byte_len w);
  write = λ x. to_be_bytes w (length (f.write x)) ++ f.write x;
  read = λ bytes. (number w).read bytes >>= λ n.
      if nat_lt (length n.1) n.0 then None else (all_of (f.read (take n.0 n.1)) >>= λ x. Some (x, drop n.0 n.1));
}
