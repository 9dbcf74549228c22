-- Each reply that a line can spell is read back.
use Rattle.std.proofs.Common.{◌≡◌, ℕ, ◌+◌, ◌-◌, ◌<◌, ◌≤◌, true, false, List, [], ◌∷◌, Some, None, refl, sym, ap, ◌∙◌, subst, arith, inl}
use Rattle.std.proofs.Common.{inr}
use Rattle.std.specs.Prelude.{codes, nat_le, not, option_map}
use Rattle.std.specs.Fmt.{decimal, digits}
use Rattle.std.specs.List.{list_all}
use Rattle.std.specs.Str.{bytes_eq}
use Rattle.std.proofs.lemmas.Bool.{and_parts, and_right, cases_lt, cond-true, le-ltb, leb-true, lt-leb, lt-ltb, not-true}
use Rattle.std.proofs.lemmas.Slice.Eq.{bytes_eq-Decides}
use Rattle.kms_model.specs.declared.objects.Kind.{Kind}
use Rattle.kms_model.specs.declared.objects.Kind.TheVariants.{Crtc, Plane, Conn, Enc}
use Rattle.kms_model.specs.declared.objects.ObjId.{ObjId}
use Rattle.kms_model.specs.declared.replies.Event.{Event}
use Rattle.kms_model.specs.declared.replies.Reply.{Reply}
use Rattle.kms_model.specs.declared.replies.Reply.TheVariants as reply
use Rattle.kms_model.specs.Device.Objects.{first_id, index_of, kind_of, object_id}
use Rattle.kms_model.specs.Report.History.{named_object}
use Rattle.kms_model.specs.Report.Replies.{reply_words}
use Rattle.kms_model.specs.Report.ReplyFields.{busy_read, event_fields, lone_number, lone_reply, named_id, numbered_reply, refusal_numbered}
use Rattle.kms_model.specs.Report.ReplyFields.{refusal_read, reply_of_word, reply_read, space_read}
use Rattle.kms_model.specs.Report.Rules.{ENOMEM, EBUSY, errno_of}
use Rattle.kms_model.specs.Request.Sets.{obj_id}
use Rattle.kms_model.specs.Script.Grammar.{is_printable}
use Rattle.kms_model.specs.Script.Schedules.{IsFitNumber, greatest_number}
use Rattle.kms_model.specs.Script.Words.{between}
use Rattle.kms_words.specs.Printed.{fields}
use Rattle.kms_script.proofs.Cutting.{field_of, is_inner, number_of}
use Rattle.kms_script.proofs.WordsBack.{object_back}
use Rattle.kms_read_back.specs.ReadBack.{IsFitEvent, IsFitReply, IsNear}
use Rattle.kms_read_back.proofs.Bodies.{ArePlain, denial-errno, is_errno, number-word, object-word, refusal-errno}

-- a number alone
pub lone-read : (n : ℕ) → IsFitNumber n → lone_number (fields (decimal n ∷ [])) ≡ Some n
unfolding lone_number
lone-read n fits = rw (number_of greatest_number n [] (omega arith) fits) refl

pub event-read : (e : Event) → IsFitEvent e
    → event_fields (fields (decimal e.user_data ∷ decimal e.sequence ∷ decimal e.crtc ∷ [])) ≡ Some e
unfolding event_fields
event-read e f =
    let user = f.user_data in
    rw (
      number_of 18446744073709551615 e.user_data (decimal e.sequence ∷ decimal e.crtc ∷ []) (omega arith) (omega (arith, user)),
      number_of greatest_number e.sequence (decimal e.crtc ∷ []) (omega arith) f.sequence,
      lone-read e.crtc f.crtc,
    ) refl

-- the word that begins a reply
reply-begin : (w : List ℕ) (ws : List (List ℕ)) → list_all is_inner w ≡ true → reply_read (fields (w ∷ ws)) ≡ reply_of_word w (fields ws)
unfolding reply_read
reply-begin w ws inner = rw (field_of w ws inner) refl

numbered-back : (answer : ℕ → Reply) (n : ℕ) → IsFitNumber n → numbered_reply answer (fields (decimal n ∷ [])) ≡ Some (answer n)
unfolding numbered_reply
numbered-back answer n fits = rw (lone-read n fits) refl

made-back : (n : ℕ) → IsFitNumber n → reply_of_word (codes "made") (fields (decimal n ∷ [])) ≡ Some (reply.Made n)
unfolding reply_of_word
made-back n fits = numbered-back (λ id. reply.Made id) n fits

commit-back : (n : ℕ) → IsFitNumber n → reply_of_word (codes "commit") (fields (decimal n ∷ [])) ≡ Some (reply.Commit n)
unfolding reply_of_word
commit-back n fits = numbered-back (λ k. reply.Commit k) n fits

event-back : (e : Event) → IsFitEvent e
    → reply_of_word (codes "event") (fields (decimal e.user_data ∷ decimal e.sequence ∷ decimal e.crtc ∷ [])) ≡ Some (reply.Event e)
unfolding reply_of_word
event-back e fits = ap (option_map (λ e. reply.Event e)) (event-read e fits)

done-back : reply_of_word (codes "done") [] ≡ Some reply.Done
unfolding reply_of_word lone_reply
done-back = refl

tested-back : reply_of_word (codes "tested") [] ≡ Some reply.Tested
unfolding reply_of_word lone_reply
tested-back = refl

none-back : reply_of_word (codes "none") [] ≡ Some reply.NoEvent
unfolding reply_of_word lone_reply
none-back = refl

-- Refusals

errno-word : (w rest : List ℕ) → is_errno w ≡ true → reply_of_word w rest ≡ refusal_read w rest
unfolding reply_of_word
errno-word w rest e =
    let a = and_parts (list_all is_inner w) _ e in
    let b = and_parts (list_all is_printable w) _ a.1 in
    let c = and_parts (not (bytes_eq w (codes "made"))) _ b.1 in
    let d = and_parts (not (bytes_eq w (codes "done"))) _ c.1 in
    let f = and_parts (not (bytes_eq w (codes "commit"))) _ d.1 in
    let g = and_parts (not (bytes_eq w (codes "tested"))) _ f.1 in
    let h = and_parts (not (bytes_eq w (codes "event"))) _ g.1 in
    let i = and_parts (not (bytes_eq w (codes "none"))) _ h.1 in
    let j = and_parts (not (bytes_eq w ENOMEM)) (not (bytes_eq w EBUSY)) i.1 in
    rw (
      not-true (bytes_eq w (codes "made")) c.0,
      not-true (bytes_eq w (codes "done")) d.0,
      not-true (bytes_eq w (codes "commit")) f.0,
      not-true (bytes_eq w (codes "tested")) g.0,
      not-true (bytes_eq w (codes "event")) h.0,
      not-true (bytes_eq w (codes "none")) i.0,
      not-true (bytes_eq w ENOMEM) j.0,
      not-true (bytes_eq w EBUSY) j.1,
    ) refl

errno-inner : (w : List ℕ) → is_errno w ≡ true → list_all is_inner w ≡ true
errno-inner w e = (and_parts (list_all is_inner w) _ e).0

errno-plain : (w : List ℕ) → is_errno w ≡ true → list_all is_printable w ≡ true
errno-plain w e = (and_parts (list_all is_printable w) _ (and_parts (list_all is_inner w) _ e).1).0

refusal-back : (n : ℕ) → IsFitNumber n → refusal_read (errno_of n) (fields (decimal n ∷ [])) ≡ refusal_numbered n
unfolding refusal_read
refusal-back n fits =
    rw (lone-read n fits)
    (cond-true (bytes_eq (errno_of n) (errno_of n)) (refusal_numbered n) None ((bytes_eq-Decides (errno_of n) (errno_of n)).1 refl))

below : (low high n : ℕ) → high ≤ 35 → between low high n ≡ true → n ≤ 35
below low high n small e = let two = and_parts (nat_le low n) (nat_le n high) e in let a = leb-true n high two.1 in omega (arith, a, small)

denied-numbered : (n : ℕ) → between 31 35 n ≡ true → refusal_numbered n ≡ Some (reply.Denied n)
denied-numbered n e =
    let two = and_parts (nat_le 31 n) (nat_le n 35) e in
    let a = leb-true 31 n two.0 in
    let other : between 1 24 n ≡ false = and_right (nat_le 1 n) (nat_le n 24) (lt-leb n 24 (omega (arith, a))) in
    rw (other, e) refl

refused-numbered : (n : ℕ) → between 1 24 n ≡ true → refusal_numbered n ≡ Some (reply.Refused (record { 0 = n }))
refused-numbered n e = rw e refl

-- Objects

pub record IsNamed (id : ℕ) : Type 0 where
  pub kind : Kind
  pub index : ℕ
  pub is_kind : kind_of id ≡ kind
  pub is_index : index_of id ≡ index
  pub low : index < 100
  pub is_id : object_id kind index ≡ id

named-as : (kind : Kind) (id : ℕ) → kind_of id ≡ kind → first_id kind ≤ id → id < first_id kind + 100 → IsNamed id
named-as kind id is_kind from to_ = record {
  kind = kind;
  index = id - first_id kind;
  is_kind = is_kind;
  is_index = ap (λ k. id - first_id k) is_kind;
  low = omega (arith, from, to_);
  is_id = omega (arith, from);
}

pub named-near : (id : ℕ) → IsNear id → IsNamed id
named-near id near =
    let two = and_parts (nat_le 100 id) (nat_le id 499) near in
    let to_ = leb-true id 499 two.1 in
    elim (cases_lt id 200) [
      | inl lt ↦ named-as Crtc id (rw (lt-ltb id 200 lt) refl) (leb-true 100 id two.0) lt
      | inr ge ↦ elim (cases_lt id 300) [
        | inl lt ↦ named-as Plane id (rw (le-ltb id 200 ge, lt-ltb id 300 lt) refl) ge lt
        | inr ge2 ↦ elim (cases_lt id 400) [
          | inl lt ↦ named-as Conn id (rw (le-ltb id 200 ge, le-ltb id 300 ge2, lt-ltb id 400 lt) refl) ge2 lt
          | inr ge3 ↦ named-as Enc id (rw (le-ltb id 200 ge, le-ltb id 300 ge2, le-ltb id 400 ge3) refl) ge3 (omega (arith, to_))
        ]
      ]
    ]

named-id : (kind : Kind) (index : ℕ) → index < 100 → named_id kind index ≡ obj_id (object_id kind index)
named-id kind index low = rw (lt-ltb index 100 low) refl

busy-fields : (kind : Kind) (index k : ℕ) → index < 100 → IsFitNumber k
    → busy_read (fields (codes "26" ∷ named_object kind index ∷ decimal k ∷ [])) ≡ Some (reply.Busy (obj_id (object_id kind index)) k)
unfolding busy_read
busy-fields kind index k low fits =
    rw (
      field_of (named_object kind index) (decimal k ∷ []) (object-word kind index (omega (arith, low))).inner,
      object_back kind index
          (omega (arith, low)),
    )
    (numbered-back (λ n. reply.Busy (named_id kind index) n) k fits ∙ ap (λ o. Some (reply.Busy o k)) (named-id kind index low))

space-fields : (used : ℕ) → IsFitNumber used
    → space_read (fields (codes "events" ∷ codes "25" ∷ decimal used ∷ [])) ≡ Some (reply.Space used)
unfolding space_read
space-fields used fits = numbered-back (λ n. reply.Space n) used fits

space-words : (used : ℕ) → reply_words (reply.Space used) ≡ ENOMEM ∷ codes "events" ∷ codes "25" ∷ decimal used ∷ []
unfolding digits
space-words used = refl

busy-words : (o : ObjId) (k : ℕ) (N : IsNamed o.0)
    → reply_words (reply.Busy o k) ≡ EBUSY ∷ codes "26" ∷ named_object N.kind N.index ∷ decimal k ∷ []
unfolding digits
busy-words o k N = λ i. EBUSY ∷ codes "26" ∷ named_object (N.is_kind i) (N.is_index i) ∷ decimal k ∷ []

space-back : (used : ℕ) → IsFitNumber used
    → reply_of_word ENOMEM (fields (codes "events" ∷ codes "25" ∷ decimal used ∷ [])) ≡ Some (reply.Space used)
unfolding reply_of_word
space-back used fits = space-fields used fits

busy-back : (o : ObjId) (k : ℕ) (N : IsNamed o.0) → IsFitNumber k
    → reply_of_word EBUSY (fields (codes "26" ∷ named_object N.kind N.index ∷ decimal k ∷ [])) ≡ Some (reply.Busy o k)
unfolding reply_of_word
busy-back o k N fits = busy-fields N.kind N.index k N.low fits ∙ ap (λ id. Some (reply.Busy (obj_id id) k)) N.is_id

-- All replies

pub reply-back : (r : Reply) → IsFitReply r → reply_read (fields (reply_words r)) ≡ Some r
reply-back (reply.Made id) fits = reply-begin (codes "made") (decimal id ∷ []) refl ∙ made-back id fits
reply-back reply.Done fits = reply-begin (codes "done") [] refl ∙ done-back
reply-back (reply.Commit k) fits = reply-begin (codes "commit") (decimal k ∷ []) refl ∙ commit-back k fits
reply-back reply.Tested fits = reply-begin (codes "tested") [] refl ∙ tested-back
reply-back (reply.Refused n) fits =
    let small = below 1 24 n.0 (omega arith) fits in
    let word = refusal-errno n.0 fits in
    reply-begin (errno_of n.0) (decimal n.0 ∷ []) (errno-inner (errno_of n.0) word)
    ∙ (errno-word (errno_of n.0) (fields (decimal n.0 ∷ [])) word ∙ (refusal-back n.0 (omega (arith, small)) ∙ refused-numbered n.0 fits))
reply-back (reply.Space used) fits =
    ap (λ ws. reply_read (fields ws)) (space-words used)
    ∙ (reply-begin ENOMEM (codes "events" ∷ codes "25" ∷ decimal used ∷ []) refl ∙ space-back used fits)
reply-back (reply.Busy o k) fits =
    let N = named-near o.0 fits.0 in
    ap (λ ws. reply_read (fields ws)) (busy-words o k N)
    ∙ (reply-begin EBUSY (codes "26" ∷ named_object N.kind N.index ∷ decimal k ∷ []) refl ∙ busy-back o k N fits.1)
reply-back (reply.Denied n) fits =
    let small = below 31 35 n (omega arith) fits in
    let word = denial-errno n fits in
    reply-begin (errno_of n) (decimal n ∷ []) (errno-inner (errno_of n) word)
    ∙ (errno-word (errno_of n) (fields (decimal n ∷ [])) word ∙ (refusal-back n (omega (arith, small)) ∙ denied-numbered n fits))
reply-back (reply.Event e) fits = reply-begin (codes "event") (decimal e.user_data ∷ decimal e.sequence ∷ decimal e.crtc ∷ []) refl
    ∙ event-back e fits
reply-back reply.NoEvent fits = reply-begin (codes "none") [] refl ∙ none-back

pub number-plain : (n : ℕ) → IsFitNumber n → list_all is_printable (decimal n) ≡ true
number-plain n fits = (number-word n (omega (arith, fits))).plain

pub reply-plain : (r : Reply) → IsFitReply r → ArePlain (reply_words r)
reply-plain (reply.Made id) fits = (refl, (number-plain id fits, tt))
reply-plain reply.Done fits = (refl, tt)
reply-plain (reply.Commit k) fits = (refl, (number-plain k fits, tt))
reply-plain reply.Tested fits = (refl, tt)
reply-plain (reply.Refused n) fits =
    let small = below 1 24 n.0 (omega arith) fits in
    (errno-plain (errno_of n.0) (refusal-errno n.0 fits), (number-plain n.0 (omega (arith, small)), tt))
reply-plain (reply.Space used) fits = subst ArePlain (sym (space-words used)) (refl, (refl, (refl, (number-plain used fits, tt))))
reply-plain (reply.Busy o k) fits =
    let N = named-near o.0 fits.0 in
    let low = N.low in
    subst ArePlain (sym (busy-words o k N)) (
      refl,
      (
        refl,
        (
          (object-word N.kind N.index (omega (arith, low))).plain,
          (number-plain k fits.1, tt),
        ),
      ),
    )
reply-plain (reply.Denied n) fits =
    let small = below 31 35 n (omega arith) fits in
    (errno-plain (errno_of n) (denial-errno n fits), (number-plain n (omega (arith, small)), tt))
reply-plain (reply.Event e) fits =
    let user = fits.user_data in
    (refl, ((number-word e.user_data user).plain, (number-plain e.sequence fits.sequence, (number-plain e.crtc fits.crtc, tt))))
reply-plain reply.NoEvent fits = (refl, tt)
