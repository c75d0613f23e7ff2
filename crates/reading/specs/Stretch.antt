-- What was said on the wire since the last Null or Wait: its bits, and the bytes that they spell. A function of the events alone.
use Rattle.std.specs.Prelude.{ℕ, ◌+◌, ◌*◌, ◌%◌, List, [], ◌∷◌, ◌++◌, Option, Some, None}
use Rattle.chip.specs.declared.Event.{Event}
use Rattle.chip.specs.declared.Event.TheVariants.{Bit, Null, Wait, Reset, Cut}

-- ---- "the bits since the last Null or Wait before it (none: it begins nothing), with no reset or Cut between"
-- one bit more, where there is a stretch
unfoldable pub grown : Option (List ℕ) → ℕ → Option (List ℕ)
grown None b = None
grown (Some bits) b = Some (bits ++ (b ∷ []))

abbrev pub stretch_after : Option (List ℕ) → Event → Option (List ℕ)
stretch_after stretch (Bit b) = grown stretch b
stretch_after stretch Null = Some []
stretch_after stretch Wait = Some []
stretch_after stretch Reset = None
stretch_after stretch (Cut mask) = None

unfoldable pub stretch_from : Option (List ℕ) → List Event → Option (List ℕ)
stretch_from stretch [] = stretch
stretch_from stretch (ev ∷ evs) = stretch_from (stretch_after stretch ev) evs

-- the stretch that the events so far leave
abbrev pub stretch_of : List Event → Option (List ℕ)
stretch_of past = stretch_from None past

-- ---- "Bits come most significant first"; a bit given as a number counts by its lowest bit
abbrev pub byte_of : ℕ → ℕ → ℕ → ℕ → ℕ → ℕ → ℕ → ℕ → ℕ
byte_of a b c d e f g h = ((((((a % 2 * 2 + b % 2) * 2 + c % 2) * 2 + d % 2) * 2 + e % 2) * 2 + f % 2) * 2 + g % 2) * 2 + h % 2

abbrev pub before : ℕ → Option (List ℕ) → Option (List ℕ)
before x None = None
before x (Some xs) = Some (x ∷ xs)

-- ---- "each followed by one frame whose bit may be either", "and nothing follows": bits left over spell nothing
unfoldable pub bytes_of : List ℕ → Option (List ℕ)
bytes_of [] = Some []
bytes_of (a ∷ []) = None
bytes_of (a ∷ b ∷ []) = None
bytes_of (a ∷ b ∷ c ∷ []) = None
bytes_of (a ∷ b ∷ c ∷ d ∷ []) = None
bytes_of (a ∷ b ∷ c ∷ d ∷ e ∷ []) = None
bytes_of (a ∷ b ∷ c ∷ d ∷ e ∷ f ∷ []) = None
bytes_of (a ∷ b ∷ c ∷ d ∷ e ∷ f ∷ g ∷ []) = None
bytes_of (a ∷ b ∷ c ∷ d ∷ e ∷ f ∷ g ∷ h ∷ []) = None
bytes_of (a ∷ b ∷ c ∷ d ∷ e ∷ f ∷ g ∷ h ∷ answer ∷ rest) = before (byte_of a b c d e f g h) (bytes_of rest)
