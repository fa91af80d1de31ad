pub mod CrcPolynomial
pub mod CrcRegister
pub mod RecordBytes
pub mod RecordCauses
pub mod RecordFields
