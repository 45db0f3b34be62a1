-- The made program: copies of store buffering, as many as its number says.
use Rattle.std.specs.Prelude.{ℕ, ◌+◌, ◌*◌, ◌≤◌, List, [], ◌∷◌, ◌++◌, codes, decimal, flat_map, map}
use Rattle.std.specs.List.{range_with_len}
use Rattle.line_text.specs.Lines.{text_of}

-- how many copies a program may have
abbrev pub IsNumberOfCopies : ℕ → Type 0
IsNumberOfCopies n = (1 ≤ n) × (n ≤ 16)

abbrev pub numbers_below : ℕ → List ℕ
numbers_below n = range_with_len 0 n

-- the variables of copy i: two that are written, and two that are read into
abbrev pub variables_line : ℕ → List ℕ
variables_line i = codes "int x" ++ decimal i ++ codes ", y" ++ decimal i ++ codes ", r" ++ decimal i ++ codes ", s" ++ decimal i ++ codes ";"

-- its threads: each writes one variable, and then reads the other
abbrev pub first_thread : ℕ → List ℕ
first_thread i =
    codes "void *a" ++ decimal i ++ codes "(void *p) { x" ++ decimal i ++ codes " = 1; r" ++ decimal i ++ codes " = y" ++ decimal i ++ codes "; return 0; }"

abbrev pub second_thread : ℕ → List ℕ
second_thread i =
    codes "void *b" ++ decimal i ++ codes "(void *p) { y" ++ decimal i ++ codes " = 1; s" ++ decimal i ++ codes " = x" ++ decimal i ++ codes "; return 0; }"

abbrev pub copy_lines : ℕ → List (List ℕ)
copy_lines i = variables_line i ∷ first_thread i ∷ second_thread i ∷ []

-- main's first lines, for so many threads
abbrev pub main_lines : ℕ → List (List ℕ)
main_lines threads = codes "int main() {" ∷ (codes "  pthread_t t[" ++ decimal threads ++ codes "];") ∷ []

-- the creates of copy i's threads
abbrev pub create_lines : ℕ → List (List ℕ)
create_lines i =
    (codes "  pthread_create(&t[" ++ decimal (2 * i) ++ codes "], 0, a" ++ decimal i ++ codes ", 0);")
    ∷ (codes "  pthread_create(&t[" ++ decimal (2 * i + 1) ++ codes "], 0, b" ++ decimal i ++ codes ", 0);")
    ∷ []

abbrev pub join_line : ℕ → List ℕ
join_line thread = codes "  pthread_join(t[" ++ decimal thread ++ codes "], 0);"

-- not both threads of copy i read 0
abbrev pub assert_line : ℕ → List ℕ
assert_line i = codes "  assert(!(r" ++ decimal i ++ codes " == 0 && s" ++ decimal i ++ codes " == 0));"

abbrev pub last_lines : List (List ℕ)
last_lines = codes "  return 0;" ∷ codes "}" ∷ []

-- the program with n copies
abbrev pub made_lines : ℕ → List (List ℕ)
made_lines n =
    flat_map copy_lines (numbers_below n)
    ++ main_lines (2 * n)
    ++ flat_map create_lines (numbers_below n)
    ++ map join_line (numbers_below (2 * n))
    ++ map assert_line (numbers_below n)
    ++ last_lines

abbrev pub made_text : ℕ → List ℕ
made_text n = text_of (made_lines n)
