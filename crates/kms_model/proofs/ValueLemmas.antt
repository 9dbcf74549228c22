-- The values after a property of an object is set.
use Rattle.std.proofs.Common.{◌≡◌, ◌≢◌, ℕ, List, cond, Bool, true, false, refl, sym, ◌∙◌}
use Rattle.std.specs.Prelude.{◌&&◌, ◌==◌, ℤ}
use Rattle.std.proofs.lemmas.Bool.{eq-eqb, ne_eqb}
use Rattle.kms_model.specs.declared.worlds.Setting.{Setting}
use Rattle.kms_model.specs.Device.World.{put, value}
use Rattle.kms_model.proofs.AppliedValues.{value-put}

-- values that differ in one property of one object alone
pub record Puts (before after : List Setting) (object prop : ℕ) (number : ℤ) : Type 0 where
  pub at : value after object prop ≡ number
  pub other_object : (o p : ℕ) → o ≢ object → value after o p ≡ value before o p
  pub other_prop : (p : ℕ) → p ≢ prop → value after object p ≡ value before object p

other_prop-reads : (b : Bool) (n old : ℤ) → cond (b && false) n old ≡ old
other_prop-reads true n old = refl
other_prop-reads false n old = refl

pub Puts-put : (values : List Setting) (object prop : ℕ) (number : ℤ) → Puts values (put values object prop number) object prop number
Puts-put values object prop number = record {
  at = value-put values object prop number object prop ∙ rw (eq-eqb object object refl, eq-eqb prop prop refl) refl;
  other_object = λ o p other. value-put values object prop number o p ∙ rw (ne_eqb object o (λ e. other (sym e))) refl;
  other_prop = λ p other. value-put values object prop number object p ∙ rw (ne_eqb prop p (λ e. other (sym e)))
      (other_prop-reads (object == object) number (value values object p));
}
