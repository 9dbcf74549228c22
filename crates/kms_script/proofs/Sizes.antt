-- The bytes of lines so far change nothing but whether a script may have them.
use Rattle.std.proofs.Common.{◌≡◌, ℕ, Bool, true, false, List, cond, Option, Some, None, Ok, Err, refl}
use Rattle.std.specs.Prelude.{codes, ◌==◌}
use Rattle.std.specs.Str.{bytes_eq}
use Rattle.kms_model.specs.declared.scripts.Why.{Why}
use Rattle.kms_model.specs.declared.scripts.Why.TheVariants.{Form, Label, Limit}
use Rattle.kms_model.specs.Script.CommandLines.{command_read, or_form, unless}
use Rattle.kms_model.specs.Script.WholeInput.{Draft, Lined, crtcs_at, plane_fields, conn_at, first_line, crtcs_line, plane_line, conn_line}
use Rattle.kms_model.specs.Script.WholeInput.{client_line, command_line, later_line, script_line, version_read}
use Rattle.kms_model.specs.Script.Words.{until, from, end_at}

-- a draft of so many bytes
abbrev pub resized : ℕ → Draft → Draft
resized n d = record d { size = n }

-- what a line gives, with so many bytes
abbrev pub relined : ℕ → Lined → Lined
relined n (Ok d) = Ok (resized n d)
relined n (Err why) = Err why

-- behind a form, what follows counts alone
in_form : {A : Type 0} (n : ℕ) (o : Option A) (f g : A → Lined) → ((x : A) → g x ≡ relined n (f x)) → or_form o g ≡ relined n (or_form o f)
in_form n None f g same = refl
in_form n (Some x) f g same = same x

-- behind a test for a fault likewise
in_unless : (n : ℕ) (t : Bool) (why : Why) (r s : Lined) → s ≡ relined n r → unless t why s ≡ relined n (unless t why r)
in_unless n true why r s same = refl
in_unless n false why r s same = same

-- behind a choice both ways count
in_choice : (n : ℕ) (t : Bool) (r s p q : Lined) → p ≡ relined n r → q ≡ relined n s → cond t p q ≡ relined n (cond t r s)
in_choice n true r s p q first second = first
in_choice n false r s p q first second = second

-- a plane whatever the bytes so far
plane_same : (n : ℕ) (d : Draft) (fields : List ℕ) → plane_line (resized n d) fields ≡ relined n (plane_line d fields)
unfolding plane_line
plane_same n d fields = in_form n (plane_fields d.crtcs fields) _ _ (λ p. in_unless n _ Form _ _ (in_unless n _ Limit _ _ refl))

-- a connector likewise
conn_same : (n : ℕ) (d : Draft) (fields : List ℕ) → conn_line (resized n d) fields ≡ relined n (conn_line d fields)
unfolding conn_line
conn_same n d fields = in_form n (conn_at d.crtcs fields) _ _ (λ mask. in_unless n _ Form _ _ (in_unless n _ Limit _ _ refl))

-- a client likewise
client_same : (n : ℕ) (d : Draft) (fields : List ℕ) → client_line (resized n d) fields ≡ relined n (client_line d fields)
unfolding client_line
client_same n d fields = in_form n (end_at fields) _ _ (λ u. in_unless n _ Form _ _ (in_unless n _ Limit _ _ refl))

-- a command likewise
command_same : (n : ℕ) (d : Draft) (text : List ℕ) → command_line (resized n d) text ≡ relined n (command_line d text)
unfolding command_line
command_same n d text =
    in_form n (command_read d.names text) _ _ (λ c. in_unless n _ Form _ _ (in_unless n _ Label _ _ (in_unless n _ Limit _ _ refl)))

-- a line does not look at the bytes of the lines before it
pub line_same : (n : ℕ) (d : Draft) (text : List ℕ) → script_line (resized n d) text ≡ relined n (script_line d text)
unfolding script_line first_line crtcs_line later_line
line_same n d text =
    in_choice n (d.head == 0) _ _ _ _ (in_form n (version_read text) _ _ (λ version. refl))
    (in_choice n (d.head == 1) _ _ _ _ (in_choice n (bytes_eq (until 32 text) (codes "crtcs")) _ _ _ _
    (in_form n (crtcs_at (from 32 text)) _ _ (λ m. refl)) refl)
    (in_choice n (bytes_eq (until 32 text) (codes "plane")) _ _ _ _ (plane_same n d (from 32 text))
    (in_choice n (bytes_eq (until 32 text) (codes "conn")) _ _ _ _ (conn_same n d (from 32 text))
    (in_choice n (bytes_eq (until 32 text) (codes "client")) _ _ _ _ (client_same n d (from 32 text)) (command_same n d text)))))
