-- Texts that grow by a piece for each item of a list.
use Rattle.std.proofs.Common.{◌≡◌, ℕ, ◌+◌, ◌<◌, ◌≤◌, Bool, ◌==◌, List, [], ◌∷◌, ◌++◌, length, get_or, take, filter, sym, ap, ◌∙◌}
use Rattle.std.proofs.Common.{append_assoc}
use Rattle.std.specs.List.{filter_map, flat_map}
use Rattle.std.proofs.lemmas.List.{take_more, take_all}
use Rattle.std.proofs.lemmas.List.Concat.{flat_map-append}
use Rattle.std.proofs.lemmas.List.Elements.{filter-append, filter_map-append}
use Rattle.kms_model.specs.declared.replies.Answered.{Answered}
use Rattle.kms_model.specs.declared.runs.Latch.{Latch}
use Rattle.kms_model.specs.Machine.State.{Machine}
use Rattle.kms_model.specs.Report.History as history
use Rattle.kms_model.specs.Report.Right.{event_in}
use Rattle.kms_report.specs.Telling.{events_text, latches_text, replies_text, section_text}
use Rattle.kms_report.specs.declared.answers.Section.{Section}
use Rattle.kms_report.specs.declared.answers.Section.TheVariants.{Events, Replies}

-- what follows of a list made of two is made of what follows of each
abbrev pub Joins : {A : Type 0} → (List A → List ℕ) → Type 0
Joins {A} F = (xs ys : List A) → F (xs ++ ys) ≡ F xs ++ F ys

pub one_more : {A : Type 0} (F : List A → List ℕ) → Joins F → (xs : List A) (i : ℕ) (d : A) (front before after : List ℕ) → i < length xs
    → before ≡ front ++ F (take i xs) → after ≡ before ++ F (get_or xs i d ∷ []) → after ≡ front ++ F (take (i + 1) xs)
one_more {A} F joins xs i d front before after within so_far more =
    let x = get_or xs i d in
    let longer : take (i + 1) xs ≡ take i xs ++ x ∷ [] = take_more xs i d within in
    more ∙ ap (λ (text : List ℕ). text ++ F (x ∷ [])) so_far ∙ append_assoc front (F (take i xs)) (F (x ∷ []))
    ∙ ap (λ (text : List ℕ). front ++ text) (sym (joins (take i xs) (x ∷ [])) ∙ ap F (sym longer))

pub at_last : {A : Type 0} (F : List A → List ℕ) (xs : List A) (i : ℕ) (front before : List ℕ) → length xs ≤ i
    → before ≡ front ++ F (take i xs) → before ≡ front ++ F xs
at_last {A} F xs i front before past so_far = so_far ∙ ap (λ (ys : List A). front ++ F ys) (take_all i xs past)

-- the items that pass a test, each as a text
filtered-joins : {A : Type 0} (f : A → List ℕ) (test : A → Bool) → Joins (λ xs. flat_map f (filter test xs))
filtered-joins f test xs ys = ap (flat_map f) (filter-append test xs ys) ∙ flat_map-append f (filter test xs) (filter test ys)

replies-join : (client : ℕ) → Joins (λ answers. replies_text answers client)
replies-join client = filtered-joins history.answer_line (λ (a : Answered). a.client == client)

pub latches-join : (m : Machine) (pixmap : Bool) (crtc : ℕ) → Joins (λ latches. latches_text m pixmap latches crtc)
latches-join m pixmap crtc = filtered-joins (history.latch_line m pixmap) (λ (l : Latch). l.crtc == crtc)

events-join : (client : ℕ) → Joins (λ answers. events_text answers client)
events-join client xs ys =
    let own = λ (a : Answered). a.client == client in
    let told = λ (a : Answered). event_in a.reply in
    ap (λ (answered : List Answered). flat_map (history.event_line client) (filter_map told answered)) (filter-append own xs ys)
    ∙ ap (flat_map (history.event_line client)) (filter_map-append told (filter own xs) (filter own ys))
    ∙ flat_map-append (history.event_line client) (filter_map told (filter own xs)) (filter_map told (filter own ys))

pub sections-join : (section : Section) (client : ℕ) → Joins (λ answers. section_text section answers client)
sections-join Replies client = replies-join client
sections-join Events client = events-join client
