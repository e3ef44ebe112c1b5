-- Labels of the tables as labels of the calculus.
use Rattle.fault.specs.declared.items.Items.{Items}
use Rattle.fault.specs.declared.items.Items.TheVariants.{One, Two, Three, Four}
use Rattle.calculus.specs.Labels.{Label, one, two, three, four}

-- the label of these items, each as f has it
abbrev pub label_of : {A B : Type 0} → (A → B) → Items A → Label B
label_of f (One a) = one (f a)
label_of f (Two a b) = two (f a) (f b)
label_of f (Three a b c) = three (f a) (f b) (f c)
label_of f (Four a b c d) = four (f a) (f b) (f c) (f d)
