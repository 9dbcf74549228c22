-- A commit more leaves the tails of those before as they are.
use Rattle.std.proofs.Common.{◌≡◌, ℕ, ◌<◌, ◌≤◌, List, ◌∷◌, length, true, Option, sym, ◌∙◌, arith}
use Rattle.kms_model.specs.declared.objects.Topology.{Topology}
use Rattle.kms_model.specs.declared.runs.Latch.{Latch}
use Rattle.kms_model.specs.Machine.Commits.{has_pair}
use Rattle.kms_model.specs.Machine.Registers.{Registers, crtc_register, plane_register}
use Rattle.kms_model.specs.Machine.State.{Commit, Marks}
use Rattle.kms_model.proofs.CommitFacts.{touches_old, concerns_old}
use Rattle.kms_laws.proofs.Invariants.{CommitsStand, Edge, Tail, crtc_after, plane_after}
use Rattle.kms_laws.proofs.Numbered.{crtc_old, names_old, plane_old, shown_old}
use Rattle.kms_laws.proofs.Objects.{crtc_registered, names-touches}

pub flush_within : {t : Topology} {cs : List Commit} {ms : Marks} {sh : Registers} {go : List (ℕ × Option ℕ)} {ls : List Latch}
    (T : Tail t cs ms sh go ls) (k c : ℕ) → has_pair ms.flushed k c ≡ true → k < length cs
flush_within {t} {cs} {ms} {sh} {go} {ls} T k c h =
    let f = T.marks.flushed k c h in
    T.marks.claimed k (T.marks.written k c (f.written c (crtc_registered t c f.is_crtc) (names-touches t cs k c T.few f.is_crtc f.names))).0

edge_more : (t : Topology) (x : Commit) (cs : List Commit) (writes : List (ℕ × ℕ)) (o : ℕ) (Says Now : ℕ → Type 0) → Edge t cs writes o Says
    → ((m : ℕ) → m ≤ length cs → Says m → Now m) → Edge t (x ∷ cs) writes o Now
edge_more t x cs writes o Says Now e now =
    record {
      at = e.at;
      within = (let l = e.within in omega arith);
      below = λ j l touch. e.below j l (sym (touches_old t x cs j o (let m = e.within in omega arith)) ∙ touch);
      above = e.above;
      says = now e.at e.within e.says;
    }

pub swap_tail : {t : Topology} {cs : List Commit} {ms : Marks} {sh : Registers} {go : List (ℕ × Option ℕ)} {ls : List Latch}
    (T : Tail t cs ms sh go ls) (x : Commit) → CommitsStand t (x ∷ cs) → Tail t (x ∷ cs) ms sh go ls
swap_tail {t} {cs} {ms} {sh} {go} {ls} T x C =
    record {
      few = T.few;
      commits = C;
      marks = record {
        claimed = λ k h. let l = T.marks.claimed k h in omega arith;
        written = λ k o h. let p = T.marks.written k o h in (p.0, touches_old t x cs k o (T.marks.claimed k p.0) ∙ p.1);
        flushed = λ k c h.
            let f = T.marks.flushed k c h in
            let l = flush_within T k c h in
            record {
              is_crtc = f.is_crtc;
              names = names_old t x cs k c l ∙ f.names;
              written = λ q i touch. f.written q i
                  (sym (touches_old t x cs k q l) ∙ touch);
            };
        done = λ k h. let p = T.marks.done k h in (
          p.0,
          λ q i touch. p.1 q i (sym (touches_old t x cs k q (T.marks.claimed k p.0)) ∙ touch),
        );
        latched = T.marks.latched;
        go_is = T.marks.go_is;
        clean_done = T.marks.clean_done;
        cleaned = λ k c h i nm. T.marks.cleaned k c h i
            (sym (names_old t x cs k c (T.marks.claimed k (T.marks.done k (T.marks.clean_done k h)).0)) ∙ nm);
      };
      order = record {
        settled = λ k j o h l i tk tj.
            let w = T.marks.claimed k h in
            let lj : j < length cs = omega arith in
            let p = T.order.settled k j o h l i (sym (touches_old t x cs k o w) ∙ tk) (sym (touches_old t x cs j o lj) ∙ tj) in
            record { done = p.done; flipped = λ c ic on. p.flipped c ic (sym (concerns_old t x cs j o c lj) ∙ on) };
      };
      shadow = record {
        plane = λ p i.
            edge_more t x cs ms.written p (λ m. plane_register sh p ≡ plane_after t cs m p)
            (λ m. plane_register sh p ≡ plane_after t (x ∷ cs) m p) (T.shadow.plane p i)
            (λ m l says. says ∙ sym (plane_old t x cs m p l));
        crtc = λ c i.
            edge_more t x cs ms.written c (λ m. crtc_register sh c ≡ crtc_after t cs m c)
            (λ m. crtc_register sh c ≡ crtc_after t (x ∷ cs) m c) (T.shadow.crtc c i)
            (λ m l says. says ∙ sym (crtc_old t x cs m c l));
      };
      shows = λ c.
          let e = T.shows c in
          record {
            at = e.at;
            within = (let l = e.within in omega arith);
            below = λ j l nm. e.below j l (sym (names_old t x cs j c (let m = e.within in omega arith)) ∙ nm);
            above = e.above;
            says = e.says ∙ sym (shown_old t x cs c e.at e.within);
          };
    }
