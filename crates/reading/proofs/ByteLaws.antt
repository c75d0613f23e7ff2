-- Nine frames are one byte, and a number of bits that is no multiple of nine spells nothing.
use Prim.Native.Nat.{ℕ, ◌+◌, ◌*◌, ◌/◌, ◌%◌, ◌<◌}
use native.Mathlib.Omega.{arith}
use mathlib.Core.Path.{◌≡◌, refl, ap}
use mathlib.Core.List.{List}
use Rattle.std.specs.Prelude.{None}
use lib.ListN.{length}
use Rattle.bits.specs.Bytes.{bit_at}
use Rattle.reading.specs.Stretch.{byte_of, before, bytes_of}
use Rattle.reading.specs.Grammar.{Stored, in_bytes, sentence}
use Rattle.reading.specs.Laws.{frames_of}
use Rattle.reading.proofs.Frames.{Nines, empty, over, nine, nines}

bit_1 : (x : ℕ) → x / 128 * 2 + bit_at x 1 % 2 ≡ x / 64
bit_1 x = omega arith

bit_2 : (x : ℕ) → x / 64 * 2 + bit_at x 2 % 2 ≡ x / 32
bit_2 x = omega arith

bit_3 : (x : ℕ) → x / 32 * 2 + bit_at x 3 % 2 ≡ x / 16
bit_3 x = omega arith

bit_4 : (x : ℕ) → x / 16 * 2 + bit_at x 4 % 2 ≡ x / 8
bit_4 x = omega arith

bit_5 : (x : ℕ) → x / 8 * 2 + bit_at x 5 % 2 ≡ x / 4
bit_5 x = omega arith

bit_6 : (x : ℕ) → x / 4 * 2 + bit_at x 6 % 2 ≡ x / 2
bit_6 x = omega arith

bit_7 : (x : ℕ) → x / 2 * 2 + bit_at x 7 % 2 ≡ x
bit_7 x = omega arith

bits_back : (x : ℕ) → x < 256 → byte_of (bit_at x 0) (bit_at x 1) (bit_at x 2) (bit_at x 3) (bit_at x 4) (bit_at x 5) (bit_at x 6) (bit_at x 7) ≡ x
bits_back x h = rw (top, bit_1 x, bit_2 x, bit_3 x, bit_4 x, bit_5 x, bit_6 x, bit_7 x) refl
  where
    top : bit_at x 0 % 2 ≡ x / 128
    top = omega arith

pub nine_frames : (x answer : ℕ) (rest : List ℕ) → x < 256 → bytes_of (frames_of x answer rest) ≡ before x (bytes_of rest)
unfolding bytes_of
nine_frames x answer rest h = ap (λ (y : ℕ). before y (bytes_of rest)) (bits_back x h)

torn_bytes : {bs : List ℕ} → Nines bs → (length bs % 9 ≡ 0 → ⊥) → bytes_of bs ≡ None
unfolding bytes_of
torn_bytes empty h = absurd (h refl)
torn_bytes (over bs p q e) h = e
torn_bytes (nine a b c e f g i j k {rest} n) h = ap (before (byte_of a b c e f g i j)) (torn_bytes n (λ z. h (omega arith)))

pub torn : (s : Stored) (bits : List ℕ) → (length bits % 9 ≡ 0 → ⊥) → sentence s bits ≡ None
unfolding sentence
torn s bits h = ap (in_bytes s) (torn_bytes (nines bits) h)
