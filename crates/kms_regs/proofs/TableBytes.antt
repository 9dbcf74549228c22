-- The channels of a table, one behind the other.
use Rattle.std.proofs.Common.{◌≡◌, ◌≤◌, ℕ, ◌+◌, List, ◌++◌, length, take, drop, sym, ap, ◌∙◌, append_assoc, arith}
use Rattle.std.proofs.lemmas.List.{append-nil, drop_all, length-append, length-drop, take_at}

abbrev after : ℕ → List ℕ → List ℕ → List ℕ
after a bytes values = take a bytes ++ (values ++ drop (a + 256) bytes)

-- three parts that are written one behind the other
pub three_parts : (bytes red green blue : List ℕ) → length bytes ≡ 768 → length red ≡ 256 → length green ≡ 256 → length blue ≡ 256
    → after 512 (after 256 (after 0 bytes red) green) blue ≡ red ++ (green ++ blue)
three_parts bytes red green blue long reds greens blues =
    let one : List ℕ = red ++ drop 256 bytes in
    let rest : List ℕ = drop 512 one in
    let one_long : length one ≡ 768 = omega (arith, length-append red (drop 256 bytes), length-drop 256 bytes, long, reds) in
    let both : length (red ++ green) ≡ 512 = omega (arith, length-append red green, reds, greens) in
    let two : after 256 one green ≡ (red ++ green) ++ rest =
    ap (λ (front : List ℕ). front ++ (green ++ rest)) (take_at red (drop 256 bytes) 256 reds) ∙ sym (append_assoc red green rest) in
    let all : length ((red ++ green) ++ rest) ≤ 768 = omega (arith, length-append (red ++ green) rest, length-drop 512 one, both, one_long)
    in
    ap (λ (xs : List ℕ). after 512 xs blue) two
    ∙ ap (λ (front : List ℕ). front ++ (blue ++ drop 768 ((red ++ green) ++ rest))) (take_at (red ++ green) rest 512 both)
    ∙ ap (λ (end : List ℕ). (red ++ green) ++ (blue ++ end)) (drop_all 768 ((red ++ green) ++ rest) all)
    ∙ ap (λ (end : List ℕ). (red ++ green) ++ end) (append-nil blue)
    ∙ append_assoc red green blue
