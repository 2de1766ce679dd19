-- An entry is made of its words.
use Rattle.std.proofs.Common.{refl}
use Rattle.bk_codec.proofs.Words.{three_words, six_words}
use Rattle.index_tables.specs.Shape.{IsShape, import_shape, export_shape, fun_shape}

pub import_is_shape : IsShape import_shape
import_is_shape = record { counted = λ x. refl; back = λ x. refl; made = three_words }

pub export_is_shape : IsShape export_shape
export_is_shape = record { counted = λ x. refl; back = λ x. refl; made = three_words }

pub fun_is_shape : IsShape fun_shape
fun_is_shape = record { counted = λ x. refl; back = λ x. refl; made = six_words }
