-- What words show of a mutex after an access: with WAITERS, released, made unusable, without WAITERS, consistent, remade.
use Rattle.std.proofs.Common.{◌≡◌, ◌≢◌, ℕ, ◌+◌, ◌*◌, ◌/◌, ◌%◌, ◌==◌, Bool, true, false, None, refl, sym, ap, ◌∙◌, arith, eqb-true}
use Rattle.std.specs.Prelude.{not, ◌&&◌, ◌||◌, ◌-◌, bit_xor}
use Rattle.std.proofs.lemmas.Bool.{eqb-false}
use Rattle.lockword.specs.Cells.{fields_of}
use Rattle.lockword.proofs.Bits.{Declares, xor_released, xor_spoiled}
use Rattle.posixmutex.specs.Objects.{declared_consistent, freed, fresh, object_of, owner_of}
use Rattle.slots.specs.Words.{is_free, waiting_word}
use Rattle.slots.proofs.FitsOn.{waiting_fields}
use Rattle.slots.proofs.OurObjects.{shows}

pub waiting_shows : (v : ℕ) → shows (waiting_word v) ≡ shows v
waiting_shows v = ap object_of (waiting_fields v)

pub free_says : (v : ℕ) → is_free v ≡ true → ((fields_of v).unusable ≡ false) × ((shows v).owner ≡ None)
free_says v e = go ((fields_of v).owner == 0) (fields_of v).unusable refl refl e
  where
    go : (a b : Bool) → ((fields_of v).owner == 0) ≡ a → (fields_of v).unusable ≡ b → (a && not b) ≡ true → ((fields_of v).unusable ≡ false) × ((shows v).owner ≡ None)
    go true false e f g = (f, ap owner_of (eqb-true (fields_of v).owner 0 e))
    go true true e f g = absurd cc
    go false b e f g = absurd cc

pub released_shows : (t w : ℕ) → (fields_of w).owner ≡ t → (fields_of w).died ≡ false → shows (bit_xor w t) ≡ freed (shows w)
released_shows t w own died = ap object_of (xor_released w t own) ∙ (λ i. record { owner = None; inconsistent = died i; unusable = (sym (ap (λ (b : Bool). b || (fields_of w).unusable) died)) i })

pub spoiled_shows : (t w : ℕ) → (fields_of w).owner ≡ t → (fields_of w).died ≡ true → (fields_of w).unusable ≡ false → shows (bit_xor w (t + 5368709120)) ≡ freed (shows w)
spoiled_shows t w own died usable = ap object_of (xor_spoiled w t own died) ∙ (λ i. record { owner = None; inconsistent = false; unusable = (ap not usable ∙ sym (ap (λ (b : Bool). b || (fields_of w).unusable) died)) i })

-- of the trim
pub trimmed_shows : (n : ℕ) → shows (2147483648 + n * 8589934592 - 2147483648) ≡ shows (2147483648 + n * 8589934592)
trimmed_shows n = λ i. record { owner = owner_of (o i); inconsistent = d i; unusable = u i }
  where
    o : (fields_of (2147483648 + n * 8589934592 - 2147483648)).owner ≡ (fields_of (2147483648 + n * 8589934592)).owner
    o = omega arith

    d : (fields_of (2147483648 + n * 8589934592 - 2147483648)).died ≡ (fields_of (2147483648 + n * 8589934592)).died
    d = ap (λ (j : ℕ). j == 1) (let e : (2147483648 + n * 8589934592 - 2147483648) / 1073741824 % 2 ≡ (2147483648 + n * 8589934592) / 1073741824 % 2 = omega arith in e)

    u : (fields_of (2147483648 + n * 8589934592 - 2147483648)).unusable ≡ (fields_of (2147483648 + n * 8589934592)).unusable
    u = ap (λ (j : ℕ). j == 1) (let e : (2147483648 + n * 8589934592 - 2147483648) / 4294967296 % 2 ≡ (2147483648 + n * 8589934592) / 4294967296 % 2 = omega arith in e)

pub declared_shows : (w v : ℕ) → Declares w v → shows v ≡ declared_consistent (shows w)
declared_shows w v d = λ i. record { owner = owner_of (d.owner i); inconsistent = d.died i; unusable = d.unusable i }

zero_bit : (n : ℕ) → (n % 2 == 1) ≡ false → n % 2 ≡ 0
zero_bit n e = let no : n % 2 ≢ 1 = eqb-false (n % 2) 1 e in omega (arith, no)

pub remade_shows : (v : ℕ) → v % 1073741824 ≡ 0 → (fields_of v).died ≡ false → (fields_of v).unusable ≡ true → shows (v - 4294967296 + 8589934592) ≡ fresh
remade_shows v own died lost = λ i. record { owner = owner_of (o i); inconsistent = d i; unusable = u i }
  where
    set : v / 4294967296 % 2 ≡ 1
    set = eqb-true (v / 4294967296 % 2) 1 lost

    clear : v / 1073741824 % 2 ≡ 0
    clear = zero_bit (v / 1073741824) died

    o : (fields_of (v - 4294967296 + 8589934592)).owner ≡ 0
    o = omega (arith, own, set)

    d : (fields_of (v - 4294967296 + 8589934592)).died ≡ false
    d = ap (λ (j : ℕ). j == 1) (let e : (v - 4294967296 + 8589934592) / 1073741824 % 2 ≡ 0 = omega (arith, clear, set) in e)

    u : (fields_of (v - 4294967296 + 8589934592)).unusable ≡ false
    u = ap (λ (j : ℕ). j == 1) (let e : (v - 4294967296 + 8589934592) / 4294967296 % 2 ≡ 0 = omega (arith, set) in e)
