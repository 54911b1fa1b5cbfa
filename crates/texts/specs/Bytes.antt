-- A text as its bytes.
use Rattle.std.specs.Prelude.{List, [], ◌∷◌, ℕ}
use Prim.Native.Char.{code}
use Prim.Native.String.{String, [] as no_text, ◌∷◌ as ◌then◌}

-- of ASCII, where a character is one byte
abbrev pub bytes : String → List ℕ
bytes no_text = []
bytes (c then s) = code c ∷ bytes s
