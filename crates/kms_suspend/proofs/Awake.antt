-- A device that is brought back: the second request is accepted where the first one was done, and all is as it was before.
use Rattle.std.proofs.Common.{◌≡◌, ◌≢◌, ℕ, ◌+◌, ◌<◌, Bool, true, false, cond, List, [], ◌∷◌, ◌++◌, ℤ, pos, Option, Some, None, inl, inr}
use Rattle.std.proofs.Common.{refl, sym, ap, ◌∙◌, subst, arith}
use Rattle.std.specs.Prelude.{◌==◌, ◌||◌, filter, is_some, not, if◌then◌else◌}
use Rattle.std.specs.List.{All, list_any}
use Rattle.std.specs.Ordering.{int_eq}
use Rattle.std.specs.Result.{result_ok}
use Rattle.std.proofs.lemmas.Bool.{cases_Bool, eq-eqb, eqb-true, false≢true, lt-ltb, ne_eqb, or_cases}
use Rattle.std.proofs.lemmas.Bool.Decides.{Decides-int_eq, eqb_tells}
use Rattle.kms_model.specs.declared.objects.Kind.{Kind}
use Rattle.kms_model.specs.declared.objects.Kind.TheVariants as kind
use Rattle.kms_model.specs.declared.objects.Mode.{Mode}
use Rattle.kms_model.specs.declared.objects.Topology.{Topology}
use Rattle.kms_model.specs.declared.pictures.FbInfo.{FbInfo}
use Rattle.kms_model.specs.declared.pictures.Picture.TheVariants.{Off, On}
use Rattle.kms_model.specs.declared.properties.TheConstants.{ACTIVE, ALPHA, BLEND, CRTC_H, CRTC_ID, CRTC_W, CRTC_X, CRTC_Y, FB_ID}
use Rattle.kms_model.specs.declared.properties.TheConstants.{GAMMA_LUT, MODE_ID, SRC_H, SRC_W, SRC_X, SRC_Y, ZPOS}
use Rattle.kms_model.specs.declared.replies.TheConstants.Refusal.{CRTC_NOT_POSSIBLE, DESTINATION_TOO_FAR, FORMAT_NOT_SUPPORTED}
use Rattle.kms_model.specs.declared.replies.TheConstants.Refusal.{SOURCE_OUTSIDE_FRAMEBUFFER}
use Rattle.kms_model.specs.declared.scripts.Request.{Request}
use Rattle.kms_model.specs.declared.scripts.Value.{Value}
use Rattle.kms_model.specs.declared.scripts.Value.TheVariants.{Num}
use Rattle.kms_model.specs.declared.scripts.PropRef.TheVariants.{Known}
use Rattle.kms_model.specs.declared.objects.Gamma.{Gamma}
use Rattle.kms_model.specs.declared.worlds.Content.{Content}
use Rattle.kms_model.specs.declared.worlds.Content.TheVariants as content
use Rattle.kms_model.specs.declared.worlds.Look.{Look}
use Rattle.kms_model.specs.declared.worlds.Look.TheVariants as look
use Rattle.kms_model.specs.declared.states.PlaneState.{PlaneState}
use Rattle.kms_model.specs.declared.objects.PlaneInfo.{PlaneInfo}
use Rattle.kms_model.specs.declared.worlds.Setting.{Setting}
use Rattle.kms_model.specs.declared.worlds.Thing.{Thing}
use Rattle.kms_model.specs.declared.worlds.World.{World}
use Rattle.kms_model.specs.Device.Masks.{has_bit}
use Rattle.kms_model.specs.Device.GammaBytes.{gamma_of_bytes}
use Rattle.kms_model.specs.Device.ModeBytes.{decoded}
use Rattle.kms_model.specs.Device.Modes.{is_legal_mode}
use Rattle.kms_model.specs.Device.Objects.{count_of, ids_of, index_of, indices_of, object_id}
use Rattle.kms_model.specs.Device.Sound.{IsDevice, IsLawful, is_crtc, kept_properties}
use Rattle.kms_model.specs.Device.States.{connector_on, crtc_at, framebuffer_of, gamma_of, mode_at, mode_in, mode_of, natural, plane_at}
use Rattle.kms_model.specs.Device.World.{thing_labelled, thing_numbered, value}
use Rattle.kms_model.specs.Firsts.{refused_if}
use Rattle.kms_model.specs.Frames.Pictures.{layers_of, picture, picture_in, put_plane, seen_on, shown_with}
use Rattle.kms_model.specs.Frames.Rectangles.{fits_source}
use Rattle.kms_model.specs.Frames.Shown.{AreFramed}
use Rattle.kms_model.specs.Order.Suspending.{closed_object, conn_back, crtc_back, crtc_of, framebuffer_label, has_crtc_at, has_mode_at}
use Rattle.kms_model.specs.Order.Suspending.{labelled, mode_label, off_request, on_request, plane_back}
use Rattle.kms_model.specs.Request.Apply.{after, id_in, is_kept, number_of}
use Rattle.kms_model.specs.Request.Checks.{has_crtc, is_active, is_beyond, placed_refusal, plane_refusal, plane_refusal_with, switches_crtc}
use Rattle.kms_model.specs.Request.Lookups.{look_of, look_of_blob, look_of_content, look_up}
use Rattle.kms_model.specs.Request.Named.{is_routed}
use Rattle.kms_model.specs.Request.Refusals.{assigns_refusal, early_refusal, flags_refusal, is_value, takes}
use Rattle.kms_model.specs.Request.Touched.{last_value}
use Rattle.kms_model.specs.Script.Grammar.{format_bit}
use Rattle.kms_model.proofs.ApplyLemmas.{number_or, value-apply}
use Rattle.kms_model.proofs.HeldValues.{all_held-from, filter-in}
use Rattle.kms_model.proofs.Items.{IsIn, IsObject, ids-has, ids-in, list_any-at, list_any-some, none-number_if, or_else-none, or_else-nones}
use Rattle.kms_model.proofs.KindsOfIds.{index_of-object}
use Rattle.kms_model.proofs.SeenLemmas.{row-at}
use Rattle.kms_model.proofs.ThingLemmas.{find-holds, thing_numbered-id}
use Rattle.kms_model.proofs.TouchedLemmas.{few_objects}
use Rattle.kms_suspend.specs.declared.parts.Way.TheVariants as Way
use Rattle.kms_suspend.specs.Parts.{is_in_use, part}
use Rattle.kms_suspend.proofs.Asleep.{assigns_are, in_order, off_conn, off_crtc, off_plane}
use Rattle.kms_suspend.proofs.LastValues.{value-unset}
use Rattle.kms_suspend.proofs.Names.{framebuffer_named, mode_named}
use Rattle.kms_suspend.proofs.Settable.{AreFine, active_fine, all_fine, and_fine, append_fine, conn_crtc_fine, fb_fine, mode_fine}
use Rattle.kms_suspend.proofs.Settable.{none_fine, plane_crtc_fine}
use Rattle.kms_suspend.proofs.WholeLasts.{at_conn, at_first, at_last, at_none}
use Rattle.kms_suspend.proofs.Wholes.{back_parts}

-- a plane that comes from no CRTC is refused for nothing new
pub plane-on : (info : PlaneInfo) (old new : PlaneState) → old.crtc ≡ 0 → plane_refusal info new new ≡ None
    → plane_refusal info old new ≡ None
unfolding plane_refusal
plane-on info old new off none = go new.fb (new.crtc == 0) none
  where
    placed : (fb : FbInfo) → placed_refusal info fb new new ≡ None → placed_refusal info fb old new ≡ None
    placed fb e =
        let a = or_else-none (refused_if CRTC_NOT_POSSIBLE (not (has_crtc info.crtcs new.crtc))) _ e in
        let b = or_else-none (refused_if FORMAT_NOT_SUPPORTED (not (has_bit info.formats (format_bit fb.format)))) _ a.second_none in
        let c = or_else-none (refused_if DESTINATION_TOO_FAR (is_beyond new.dst)) _ b.second_none in
        let d = or_else-none (refused_if SOURCE_OUTSIDE_FRAMEBUFFER (not (fits_source new.src fb.width fb.height))) _ c.second_none in
        or_else-nones _ _ a.first_none (or_else-nones _ _ b.first_none (or_else-nones _ _ c.first_none (or_else-nones _ _ d.first_none
        (none-number_if _ _ (ap (λ n. switches_crtc n new.crtc) off)))))

    go : (fb : Option FbInfo) (nowhere : Bool) → plane_refusal_with info new new fb nowhere ≡ None
        → plane_refusal_with info old new fb nowhere ≡ None
    go None true e = refl
    go None false e = e
    go (Some fb) true e = e
    go (Some fb) false e = placed fb e

-- all values are as before, but that MODE_ID may name another thing with the same mode
pub record IsAwake (t : Topology) (things : List Thing) (before now : List Setting) : Type 0 where
  pub values : (o p : ℕ) → p ≢ MODE_ID → value now o p ≡ value before o p
  pub modeless : (o : ℕ) → is_some (mode_at things before o) ≡ false → value now o MODE_ID ≡ value before o MODE_ID
  pub modes : (c : ℕ) → IsIn c (ids_of t kind.Crtc) → mode_at things now c ≡ mode_at things before c

-- so all typed states and pictures are
module _ (t : Topology) (things : List Thing) (before now : List Setting) (awake : IsAwake t things before now) where
  -- the values but for MODE_ID
  same : (o p : ℕ) → (p == MODE_ID) ≡ false → value now o p ≡ value before o p
  same o p other = awake.values o p (λ e. absurd (false≢true (sym other ∙ eq-eqb p MODE_ID e)))

  pub same_crtc : (o : ℕ) → crtc_at now o ≡ crtc_at before o
  same_crtc o = ap natural (same o CRTC_ID refl)

  pub same_active : (c : ℕ) → is_active now c ≡ is_active before c
  same_active c = ap (λ n. not (int_eq n (pos 0))) (same c ACTIVE refl)

  pub same_plane : (p : ℕ) → plane_at things now p ≡ plane_at things before p
  same_plane p = λ i. record {
    fb = framebuffer_of (thing_numbered things (same p FB_ID refl i));
    crtc = natural (same p CRTC_ID refl i);
    dst = record { x = same p CRTC_X refl i; y = same p CRTC_Y refl i; w = same p CRTC_W refl i; h = same p CRTC_H refl i };
    src = record { x = same p SRC_X refl i; y = same p SRC_Y refl i; w = same p SRC_W refl i; h = same p SRC_H refl i };
    alpha = natural (same p ALPHA refl i);
    blend = natural (same p BLEND refl i);
    zpos = natural (same p ZPOS refl i);
  }

  pub same_connector : (c : ℕ) (conns : List ℕ) → connector_on now c conns ≡ connector_on before c conns
  same_connector c [] = refl
  same_connector c (conn ∷ conns) =
      let crtc = same_crtc conn in
      let rest = same_connector c conns in
      λ i. if crtc i == c then conn else rest i

  same_layers : (m : Mode) (c : ℕ) (planes : List ℕ) → layers_of things now m c planes ≡ layers_of things before m c planes
  same_layers m c [] = refl
  same_layers m c (plane ∷ planes) =
      let state = same_plane plane in
      let rest = same_layers m c planes in
      λ i. put_plane m plane (state i) (seen_on c (state i)) (rest i)

  same_in : (c : ℕ) (o : Option Mode) → picture_in t things now c o ≡ picture_in t things before c o
  same_in c None = refl
  same_in c (Some m) =
      let conn = same_connector c (ids_of t kind.Conn) in
      let gamma = same c GAMMA_LUT refl in
      let layers = same_layers m c (ids_of t kind.Plane) in
      λ i. On (shown_with m (conn i) (gamma_of (thing_numbered things (gamma i))) (layers i))

  pub same_picture : (c : ℕ) → IsIn c (ids_of t kind.Crtc) → picture t things now c ≡ picture t things before c
  unfolding picture
  same_picture c is =
      let active = same c ACTIVE refl in
      let shown = ap (picture_in t things now c) (awake.modes c is) ∙ same_in c (mode_at things before c) in
      λ i. if int_eq (active i) (pos 0) then Off else shown i

module _ (t : Topology) (w : World) (device : IsDevice t) (lawful : IsLawful t w) (framed : AreFramed w.things)
    (owned : All (λ thing. thing_labelled w.things thing.label ≡ Some thing) w.things) (none_closed : closed_object t w ≡ None) where
  abbrev asleep : World
  asleep = record w { values = after w (off_request t w); commits = w.commits + 1 }

  abbrev on : Request
  on = on_request t w

  -- What the request sets

  pub back_are : on.assigns ≡ part Way.Back t w kind.Crtc ++ (part Way.Back t w kind.Conn ++ part Way.Back t w kind.Plane)
  back_are = ap (λ r. r.assigns) (sym (back_parts t w))

  back_crtc : (j p : ℕ) → j < count_of t kind.Crtc
      → last_value on.assigns (object_id kind.Crtc j) p ≡ cond (is_in_use w kind.Crtc j)
      (last_value (crtc_back w j) (object_id kind.Crtc j) p) None
  back_crtc j p low =
      ap (λ assigns. last_value assigns (object_id kind.Crtc j) p) back_are
      ∙ at_first Way.Back t w device kind.Crtc kind.Plane (λ e. absurd cc) (λ e. absurd cc) (λ e. absurd cc) j p low

  back_conn : (j p : ℕ) → j < count_of t kind.Conn
      → last_value on.assigns (object_id kind.Conn j) p ≡ cond (is_in_use w kind.Conn j)
      (last_value (conn_back w j ∷ []) (object_id kind.Conn j) p) None
  back_conn j p low =
      ap (λ assigns. last_value assigns (object_id kind.Conn j) p) back_are
      ∙ at_conn Way.Back t w device kind.Crtc kind.Plane (λ e. absurd cc) (λ e. absurd cc) (λ e. absurd cc) j p low

  back_plane : (j p : ℕ) → j < count_of t kind.Plane
      → last_value on.assigns (object_id kind.Plane j) p ≡ cond (is_in_use w kind.Plane j)
      (last_value (plane_back w j) (object_id kind.Plane j) p) None
  back_plane j p low =
      ap (λ assigns. last_value assigns (object_id kind.Plane j) p) back_are
      ∙ at_last Way.Back t w device kind.Crtc kind.Plane (λ e. absurd cc) (λ e. absurd cc) (λ e. absurd cc) j p low

  -- a property that both requests set, where an object is in use
  set_back : (o p : ℕ) (b : Bool) (given : Option Value) (v : Value) → is_kept p ≡ true
      → last_value on.assigns o p ≡ cond b given None → given ≡ Some v
      → value asleep.values o p ≡ cond b (pos 0) (value w.values o p)
      → value (after asleep on) o p ≡ cond b (number_of w.things v) (value w.values o p)
  set_back o p b given v kept last is off =
      value-apply w.things asleep.values on.assigns o p kept
      ∙ (λ i. number_or w.things ((last ∙ ap (λ y. cond b y None) is) i) (off i))
      ∙ by b
    where
      by : (b : Bool) → number_or w.things (cond b (Some v) None) (cond b (pos 0) (value w.values o p)) ≡ cond b
          (number_of w.things v) (value w.values o p)
      by true = refl
      by false = refl

  same_where : (b : Bool) (m n : ℤ) → (b ≡ true → m ≡ n) → cond b m n ≡ n
  same_where true m n same = same refl
  same_where false m n same = refl

  -- Objects in use have their values again

  -- a number that is that of a CRTC of the device
  pub record NamesCrtc (number : ℤ) : Type 0 where
    pub again : pos (object_id kind.Crtc (index_of (natural number))) ≡ number
    pub there : index_of (natural number) < t.crtcs

  pub crtc_named : (number : ℤ) → (int_eq number (pos 0) || is_crtc t number) ≡ true → not (natural number == 0) ≡ true → NamesCrtc number
  crtc_named number held has =
      elim (or_cases (int_eq number (pos 0)) (is_crtc t number) held) [
        | inl is_zero ↦ absurd (false≢true (sym (ap (λ n. not (natural n == 0)) ((Decides-int_eq number (pos 0)).0 is_zero)) ∙ has))
        | inr is ↦ (
            let one = list_any-some (λ crtc. int_eq number (pos crtc)) (ids_of t kind.Crtc) is in
            let e = (Decides-int_eq number (pos one.item)).0 one.holds in
            let o = ids-in t kind.Crtc one.item one.is_in in
            let few = (few_objects t device).crtcs in
            let index : index_of (natural number) ≡ o.index =
            ap (λ n. index_of (natural n)) e ∙ (ap index_of o.same ∙ index_of-object kind.Crtc o.index (omega (arith, o.within, few))) in
            record {
              again = ap (λ i. pos (object_id kind.Crtc i)) index ∙ (ap pos (sym o.same) ∙ sym e);
              there = subst (λ i. i < t.crtcs) (sym index) o.within;
            })
      ]

  -- the number of the CRTC that a plane or a connector is on: with `plane_crtc-held`, `conn_crtc-held`
  crtc_again : (k : Kind) (j : ℕ) → is_routed k ≡ true → j < count_of t k → has_crtc_at w (object_id k j) ≡ true
      → number_of w.things (crtc_of w (object_id k j)) ≡ value w.values (object_id k j) CRTC_ID
  crtc_again kind.Plane j routed low has =
      (crtc_named (value w.values (object_id kind.Plane j) CRTC_ID)
      ((all_held-from t w.things w.values lawful.sound.held).planes.at (object_id kind.Plane j) _ (ids-has t kind.Plane j low)
      (row-at (kept_properties kind.Plane) 2 _ refl)) has).again
  crtc_again kind.Conn j routed low has =
      (crtc_named (value w.values (object_id kind.Conn j) CRTC_ID)
      ((all_held-from t w.things w.values lawful.sound.held).conns.at (object_id kind.Conn j) _ (ids-has t kind.Conn j low)
      (row-at (kept_properties kind.Conn) 0 _ refl)) has).again
  crtc_again kind.Crtc j routed low has = absurd (false≢true routed)
  crtc_again kind.Enc j routed low has = absurd (false≢true routed)

  -- the number of a thing that a property has
  has_number : (n : ℤ) (thing : Thing) → thing_numbered w.things n ≡ Some thing → pos thing.id ≡ n
  has_number n thing found = (Decides-int_eq (pos thing.id) n).0 (find-holds (λ x. int_eq (pos x.id) n) w.things thing found)

  plane_crtc_again : (j : ℕ) → j < count_of t kind.Plane → value (after asleep on) (object_id kind.Plane j) CRTC_ID ≡ value w.values
      (object_id kind.Plane j) CRTC_ID
  plane_crtc_again j low =
      let o = object_id kind.Plane j in
      set_back o CRTC_ID (is_in_use w kind.Plane j) _ (crtc_of w o) refl (back_plane j CRTC_ID low) (rw (eq-eqb o o refl) refl)
      (off_plane t w device lawful j CRTC_ID low refl (rw (eq-eqb o o refl) refl))
      ∙ same_where (is_in_use w kind.Plane j) _ _ (λ used. crtc_again kind.Plane j refl low used)

  conn_crtc_again : (j : ℕ) → j < count_of t kind.Conn → value (after asleep on) (object_id kind.Conn j) CRTC_ID ≡ value w.values
      (object_id kind.Conn j) CRTC_ID
  conn_crtc_again j low =
      let o = object_id kind.Conn j in
      set_back o CRTC_ID (is_in_use w kind.Conn j) _ (crtc_of w o) refl (back_conn j CRTC_ID low) (rw (eq-eqb o o refl) refl)
      (off_conn t w device lawful j low)
      ∙ same_where (is_in_use w kind.Conn j) _ _ (λ used. crtc_again kind.Conn j refl low used)

  fb_again : (j : ℕ) → j < count_of t kind.Plane → value (after asleep on) (object_id kind.Plane j) FB_ID ≡ value w.values
      (object_id kind.Plane j) FB_ID
  fb_again j low =
      let o = object_id kind.Plane j in
      set_back o FB_ID (is_in_use w kind.Plane j) _ (labelled (framebuffer_label w o)) refl (back_plane j FB_ID low)
      (rw (eq-eqb o o refl) refl)
      (off_plane t w device lawful j FB_ID low refl (rw (eq-eqb o o refl) refl))
      ∙ same_where (is_in_use w kind.Plane j) _ _ (λ used.
      let named = framebuffer_named t w lawful.numbered.things framed owned none_closed o (ids-has t kind.Plane j low) used in
      ap (λ l. number_of w.things (labelled l)) named.told ∙ ap id_in named.is_thing
      ∙ has_number (value w.values o FB_ID) named.thing named.same_thing)

  active_again : (j : ℕ) → j < count_of t kind.Crtc → value (after asleep on) (object_id kind.Crtc j) ACTIVE ≡ value w.values
      (object_id kind.Crtc j) ACTIVE
  active_again j low =
      let o = object_id kind.Crtc j in
      set_back o ACTIVE (is_in_use w kind.Crtc j) _ (Num (value w.values o ACTIVE)) refl (back_crtc j ACTIVE low)
      (rw (eq-eqb o o refl) refl)
      (off_crtc t w device lawful j ACTIVE low refl (rw (eq-eqb o o refl) refl))
      ∙ same_where (is_in_use w kind.Crtc j) _ _ (λ used. refl)

  -- MODE_ID is that of the thing that the label names
  mode_again : (j : ℕ) → j < count_of t kind.Crtc
      → value (after asleep on) (object_id kind.Crtc j) MODE_ID
      ≡ cond (is_in_use w kind.Crtc j) (number_of w.things (labelled (mode_label w (object_id kind.Crtc j))))
      (value w.values (object_id kind.Crtc j) MODE_ID)
  mode_again j low =
      let o = object_id kind.Crtc j in
      set_back o MODE_ID (is_in_use w kind.Crtc j) _ (labelled (mode_label w o)) refl (back_crtc j MODE_ID low) (rw (eq-eqb o o refl) refl)
      (off_crtc t w device lawful j MODE_ID low refl (rw (eq-eqb o o refl) refl))

  -- what is looked up as a mode holds it
  holds : (thing : Thing) (m : Mode) (id : ℕ) → look_of (Some thing) ≡ look.Mode m id → mode_in thing.content ≡ Some m
  holds thing m id is = opened thing.is_open is
    where
      blob : (o : Option Mode) (g : Option Gamma) (own : ℕ) → look_of_blob own o g ≡ look.Mode m id → o ≡ Some m
      blob (Some a) g own e = ap Some cc
      blob None (Some g) own e = absurd cc
      blob None None own e = absurd cc

      legal : (b : Bool) (a : Mode) (own : ℕ) → cond b (look.Mode a own) (look.Blob own) ≡ look.Mode m id → Some a ≡ Some m
      legal true a own e = ap Some cc
      legal false a own e = absurd cc

      contents : (c : Content) (own : ℕ) → look_of_content own c ≡ look.Mode m id → mode_in c ≡ Some m
      contents (content.Mode a) own e = legal (is_legal_mode a) a own e
      contents (content.Blob bytes) own e = blob (result_ok (decoded bytes)) (gamma_of_bytes bytes) own e
      contents (content.Buffer width height format pattern) own e = absurd cc
      contents (content.Framebuffer info buffer) own e = absurd cc
      contents content.Fence own e = absurd cc
      contents content.OutFence own e = absurd cc

      opened : (b : Bool) → cond b (look_of_content thing.id thing.content) look.Closed ≡ look.Mode m id → mode_in thing.content ≡ Some m
      opened true e = contents thing.content thing.id e
      opened false e = absurd cc

  pub modes_again : (j : ℕ) → j < count_of t kind.Crtc
      → mode_at w.things (after asleep on) (object_id kind.Crtc j) ≡ mode_at w.things w.values (object_id kind.Crtc j)
  modes_again j low =
      let o = object_id kind.Crtc j in
      ap (λ n. mode_of (thing_numbered w.things n)) (mode_again j low) ∙ by (is_in_use w kind.Crtc j) refl
    where
      by : (b : Bool) → is_in_use w kind.Crtc j ≡ b
          → mode_of (thing_numbered w.things
          (cond b (number_of w.things (labelled (mode_label w (object_id kind.Crtc j)))) (value w.values (object_id kind.Crtc j) MODE_ID)))
          ≡ mode_at w.things w.values (object_id kind.Crtc j)
      by false used = refl
      by true used =
          let named = mode_named t w lawful.numbered.things framed owned none_closed (object_id kind.Crtc j)
          (ids-has t kind.Crtc j low) used in
          ap (λ l. mode_of (thing_numbered w.things (number_of w.things (labelled l)))) named.told
          ∙ ap (λ x. mode_of (thing_numbered w.things (id_in x))) named.is_thing
          ∙ ap mode_of (thing_numbered-id 1000 w.things named.thing lawful.numbered.things named.is_in)
          ∙ holds named.thing named.mode named.looks.id (sym (ap look_of named.is_thing) ∙ named.looks.is)
          ∙ sym named.is_mode

  -- All other values: neither request sets them

  unset_both : (o p : ℕ) → last_value on.assigns o p ≡ None → last_value (off_request t w).assigns o p ≡ None
      → value (after asleep on) o p ≡ value w.values o p
  unset_both o p back off = value-unset w.things asleep.values on.assigns o p back
      ∙ value-unset w.things w.values (off_request t w).assigns o p off

  none_either : (b : Bool) (v : Option Value) → v ≡ None → cond b v None ≡ None
  none_either true v none = none
  none_either false v none = refl

  off_last : (o p : ℕ) → last_value (off_request t w).assigns o p ≡ last_value
      (part Way.Off t w kind.Plane ++ (part Way.Off t w kind.Conn ++ part Way.Off t w kind.Crtc)) o p
  off_last o p = ap (λ assigns. last_value assigns o p) (assigns_are t w device lawful)

  other_prop : (q p : ℕ) → (p ≡ q → ⊥) → (q == p) ≡ false
  other_prop q p ne = ne_eqb q p (λ e. ne (sym e))

  -- of a CRTC but for MODE_ID, of a plane and of a connector, and of what is no such object
  crtc_values : (j p : ℕ) → j < count_of t kind.Crtc → (p ≡ MODE_ID → ⊥)
      → value (after asleep on) (object_id kind.Crtc j) p ≡ value w.values (object_id kind.Crtc j) p
  crtc_values j p low ne =
      let o = object_id kind.Crtc j in
      elim (eqb_tells p ACTIVE) [
        | inl active ↦ subst (λ q. value (after asleep on) o q ≡ value w.values o q) (sym active.1) (active_again j low)
        | inr away ↦ unset_both o p
            (back_crtc j p low ∙ none_either (is_in_use w kind.Crtc j) _
            (rw (eq-eqb o o refl, other_prop ACTIVE p away.1, other_prop MODE_ID p ne) refl))
            (off_last o p ∙ at_last Way.Off t w device kind.Plane kind.Crtc (λ e. absurd cc) (λ e. absurd cc) (λ e. absurd cc) j p low
            ∙ none_either (is_in_use w kind.Crtc j) _ (rw (eq-eqb o o refl, other_prop ACTIVE p away.1, other_prop MODE_ID p ne) refl))
      ]

  plane_values : (j p : ℕ) → j < count_of t kind.Plane → value (after asleep on) (object_id kind.Plane j) p ≡ value w.values
      (object_id kind.Plane j) p
  plane_values j p low =
      let o = object_id kind.Plane j in
      elim (eqb_tells p FB_ID) [
        | inl fb ↦ subst (λ q. value (after asleep on) o q ≡ value w.values o q) (sym fb.1) (fb_again j low)
        | inr no_fb ↦ elim (eqb_tells p CRTC_ID) [
          | inl crtc ↦ subst (λ q. value (after asleep on) o q ≡ value w.values o q) (sym crtc.1) (plane_crtc_again j low)
          | inr away ↦ unset_both o p
              (back_plane j p low ∙ none_either (is_in_use w kind.Plane j) _
              (rw (eq-eqb o o refl, other_prop FB_ID p no_fb.1, other_prop CRTC_ID p away.1) refl))
              (off_last o p ∙ at_first Way.Off t w device kind.Plane kind.Crtc (λ e. absurd cc) (λ e. absurd cc) (λ e. absurd cc) j p low
              ∙ none_either (is_in_use w kind.Plane j) _
              (rw (eq-eqb o o refl, other_prop FB_ID p no_fb.1, other_prop CRTC_ID p away.1) refl))
        ]
      ]

  conn_values : (j p : ℕ) → j < count_of t kind.Conn → value (after asleep on) (object_id kind.Conn j) p ≡ value w.values
      (object_id kind.Conn j) p
  conn_values j p low =
      let o = object_id kind.Conn j in
      elim (eqb_tells p CRTC_ID) [
        | inl crtc ↦ subst (λ q. value (after asleep on) o q ≡ value w.values o q) (sym crtc.1) (conn_crtc_again j low)
        | inr away ↦ unset_both o p
            (back_conn j p low ∙ none_either (is_in_use w kind.Conn j) _ (rw (eq-eqb o o refl, other_prop CRTC_ID p away.1) refl))
            (off_last o p ∙ at_conn Way.Off t w device kind.Plane kind.Crtc (λ e. absurd cc) (λ e. absurd cc) (λ e. absurd cc) j p low
            ∙ none_either (is_in_use w kind.Conn j) _ (rw (eq-eqb o o refl, other_prop CRTC_ID p away.1) refl))
      ]

  found : (k : Kind) (o : ℕ) → list_any (λ x. x == o) (ids_of t k) ≡ true → IsObject t k o
  found k o has =
      let one = list_any-some (λ x. x == o) (ids_of t k) has in
      ids-in t k o (subst (λ x. IsIn x (ids_of t k)) (eqb-true one.item o one.holds) one.is_in)

  absent : (k : Kind) (o : ℕ) → list_any (λ x. x == o) (ids_of t k) ≡ false → (i : ℕ) → i < count_of t k → object_id k i ≡ o → ⊥
  absent k o none i low same = false≢true
      (sym (list_any-at (λ x. x == o) (ids_of t k) (object_id k i) none (ids-has t k i low)) ∙ eq-eqb (object_id k i) o same)

  -- of any object, where it is known what holds of a CRTC
  values_at : (o p : ℕ) → ((j : ℕ) → j < count_of t kind.Crtc → o ≡ object_id kind.Crtc j
      → value (after asleep on) o p ≡ value w.values o p)
      → value (after asleep on) o p ≡ value w.values o p
  values_at o p of_crtc =
      elim (cases_Bool (list_any (λ x. x == o) (ids_of t kind.Crtc))) [
        | inl crtc ↦ (let x = found kind.Crtc o crtc in of_crtc x.index x.within x.same)
        | inr no_crtc ↦ elim (cases_Bool (list_any (λ x. x == o) (ids_of t kind.Plane))) [
          | inl plane ↦ (let x = found kind.Plane o plane in subst (λ z. value (after asleep on) z p ≡ value w.values z p) (sym x.same)
              (plane_values x.index p x.within))
          | inr no_plane ↦ elim (cases_Bool (list_any (λ x. x == o) (ids_of t kind.Conn))) [
            | inl conn ↦ (let x = found kind.Conn o conn in subst (λ z. value (after asleep on) z p ≡ value w.values z p) (sym x.same)
                (conn_values x.index p x.within))
            | inr no_conn ↦ unset_both o p
                (ap (λ assigns. last_value assigns o p) back_are
                ∙ at_none Way.Back t w device kind.Crtc kind.Plane (λ e. absurd cc) (λ e. absurd cc) (λ e. absurd cc) o p
                (absent kind.Crtc o no_crtc) (absent kind.Conn o no_conn) (absent kind.Plane o no_plane))
                (off_last o p
                ∙ at_none Way.Off t w device kind.Plane kind.Crtc (λ e. absurd cc) (λ e. absurd cc) (λ e. absurd cc) o p
                (absent kind.Plane o no_plane) (absent kind.Conn o no_conn) (absent kind.Crtc o no_crtc))
          ]
        ]
      ]

  pub awake : IsAwake t w.things w.values (after asleep on)
  awake = record {
    values = λ o p ne. values_at o p
        (λ j low same. subst (λ z. value (after asleep on) z p ≡ value w.values z p) (sym same) (crtc_values j p low ne));
    modeless = λ o none. values_at o MODE_ID (λ j low same.
        let free : is_in_use w kind.Crtc j ≡ false = subst (λ z. has_mode_at w z ≡ false) same none in
        subst (λ z. value (after asleep on) z MODE_ID ≡ value w.values z MODE_ID) (sym same)
        (mode_again j low ∙ ap (λ b. cond b (number_of w.things (labelled (mode_label w (object_id kind.Crtc j))))
        (value w.values (object_id kind.Crtc j) MODE_ID)) free));
    modes = λ c is. let x = ids-in t kind.Crtc c is in
        subst (λ z. mode_at w.things (after asleep on) z ≡ mode_at w.things w.values z) (sym x.same) (modes_again x.index x.within);
  }

  -- Nothing is wrong with its assignments

  abbrev looks : ℕ → Look
  looks = look_up w

  crtc_fine : (j : ℕ) → j < count_of t kind.Crtc → is_in_use w kind.Crtc j ≡ true → AreFine t looks (crtc_back w j)
  crtc_fine j low used =
      let o = object_id kind.Crtc j in
      let named = mode_named t w lawful.numbered.things framed owned none_closed o (ids-has t kind.Crtc j low) used in
      and_fine t looks _ _ (mode_fine t looks device j _ low
      (ap (λ l. is_value t looks (Known MODE_ID) (labelled l)) named.told ∙ ap (takes MODE_ID) named.looks.is)) refl
      (and_fine t looks _ [] (active_fine t looks device j _ low
      ((all_held-from t w.things w.values lawful.sound.held).crtcs.at o _ (ids-has t kind.Crtc j low)
      (row-at (kept_properties kind.Crtc) 0 _ refl))) refl (none_fine t looks))

  conn_fine : (j : ℕ) → j < count_of t kind.Conn → is_in_use w kind.Conn j ≡ true → AreFine t looks (conn_back w j ∷ [])
  conn_fine j low used =
      let o = object_id kind.Conn j in
      let crtc = crtc_named (value w.values o CRTC_ID)
      ((all_held-from t w.things w.values lawful.sound.held).conns.at o _ (ids-has t kind.Conn j low)
      (row-at (kept_properties kind.Conn) 0 _ refl)) used in
      and_fine t looks _ [] (conn_crtc_fine t looks device j _ low (lt-ltb _ t.crtcs crtc.there)) refl (none_fine t looks)

  plane_fine : (j : ℕ) → j < count_of t kind.Plane → is_in_use w kind.Plane j ≡ true → AreFine t looks (plane_back w j)
  plane_fine j low used =
      let o = object_id kind.Plane j in
      let named = framebuffer_named t w lawful.numbered.things framed owned none_closed o (ids-has t kind.Plane j low) used in
      let crtc = crtc_named (value w.values o CRTC_ID)
      ((all_held-from t w.things w.values lawful.sound.held).planes.at o _ (ids-has t kind.Plane j low)
      (row-at (kept_properties kind.Plane) 2 _ refl)) used in
      and_fine t looks _ _ (fb_fine t looks device j _ low
      (ap (λ l. is_value t looks (Known FB_ID) (labelled l)) named.told ∙ ap (takes FB_ID) named.looks)) refl
      (and_fine t looks _ [] (plane_crtc_fine t looks device j _ low (lt-ltb _ t.crtcs crtc.there)) refl (none_fine t looks))

  used_of : (k : Kind) (i : ℕ) → IsIn i (filter (is_in_use w k) (indices_of t k)) → is_in_use w k i ≡ true
  used_of k i is = (filter-in (is_in_use w k) (indices_of t k) i is).1

  flags_fine : flags_refusal on.flags ≡ None
  unfolding on_request
  flags_fine = refl

  pub early_on : early_refusal t (look_up asleep) on ≡ None
  unfolding early_refusal
  early_on =
      or_else-nones _ _ flags_fine
      (subst (λ assigns. assigns_refusal t looks [] assigns ≡ None) (sym back_are)
      (append_fine t looks _ _ (all_fine t looks (crtc_back w) _
      (λ i is. crtc_fine i (in_order t w device lawful kind.Crtc i is) (used_of kind.Crtc i is)))
      (append_fine t looks _ _ (all_fine t looks (λ i. conn_back w i ∷ []) _
      (λ i is. conn_fine i (in_order t w device lawful kind.Conn i is) (used_of kind.Conn i is)))
      (all_fine t looks (plane_back w) _ (λ i is. plane_fine i (in_order t w device lawful kind.Plane i is) (used_of kind.Plane i is))))
      []))
  -- `verdict t asleep on ≡ None` is `early_on` and `late-awake` of `AwakeLate`
