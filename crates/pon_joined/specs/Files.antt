-- Files that are opened one after another, by their bytes.
use Rattle.std.specs.Prelude.{◌≡◌, ℕ, List, [], ◌∷◌, Option, Some, None}

-- the files stay as they were, known or not
abbrev pub KeepsFiles : Option (List (List ℕ)) → Option (List (List ℕ)) → Type 0
KeepsFiles None new = new ≡ None
KeepsFiles (Some files) new = new ≡ Some files

-- the first of known files was opened, and gives its bytes; none only if there was none
abbrev pub OpensFile : Option (List (List ℕ)) → Option (List (List ℕ)) → Option (Option (List ℕ)) → Type 0
OpensFile None new file = new ≡ None
OpensFile (Some files) new None = (files ≡ []) × (new ≡ Some [])
OpensFile (Some files) new (Some left) = (file : List ℕ) × (rest : List (List ℕ)) × (files ≡ file ∷ rest) × (left ≡ Some file) × (new ≡ Some rest)
