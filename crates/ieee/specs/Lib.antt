-- What the laws and the definitions above them take from IEEE 754 beside the library's own names.
pub mod Numbers
