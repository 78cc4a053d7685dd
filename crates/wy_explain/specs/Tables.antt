-- What is said of each rule, and the features by the words at which they are refused, as data.
-- In a form the word Name stands for each word that begins with a capital letter, name for one that begins with a small one, and a quotation mark for each String.
use Rattle.std.specs.Prelude.{true, false, List, [], ◌∷◌, codes}
use Rattle.wy_explain.specs.Rows.{Form, Row, Saying, form, row, saying}

unfoldable pub sayings : List Saying
sayings =
    saying (codes "NotUtf8") (codes "The file is no text in UTF-8: no character begins with the byte here.")
    ∷ saying (codes "BadToken") (codes "No word, number or sign of Java begins here.")
    ∷ saying (codes "BadLiteral") (codes "A number, a character or a String begins here that cannot be read.")
    ∷ saying (codes "Syntax") (codes "This cannot follow what stands before it; the cause may be above, as a missing ; or ).")
    ∷ saying (codes "Duplicate") (codes "This is declared a second time.")
    ∷ saying (codes "UnknownName") (codes "No class, variable or field of this name is known here.")
    ∷ saying (codes "Cycle") (codes "This class or interface is above itself.")
    ∷ saying (codes "BadOverride") (codes "This does not fit the method that it overrides, or the class that it extends.")
    ∷ saying (codes "NotImplemented") (codes "A body is missing or too much, or an object of an abstract class is made.")
    ∷ saying (codes "NoMethod") (codes "No method or constructor of this name takes these arguments.")
    ∷ saying (codes "Ambiguous") (codes "Several methods or constructors take these arguments, and none of them fits best.")
    ∷ saying (codes "BadOperand") (codes "The type of a value does not fit the operator or the statement here.")
    ∷ saying (codes "BadAssign") (codes "The value does not fit the type of the variable, or the variable is final.")
    ∷ saying (codes "BadCast") (codes "A value of this type can never be of that one.")
    ∷ saying (codes "Private") (codes "This is private in another class.")
    ∷ saying (codes "NotInStatic") (codes "This needs an object, and a static method has none.")
    ∷ saying (codes "NotOffered") (codes "The class of the library does not have this here.")
    ∷ saying (codes "BadJump") (codes "There is no loop or label here that this could leave.")
    ∷ saying (codes "BadReturn") (codes "The value, or its absence, does not fit the result of the method.")
    ∷ saying (codes "NoMain") (codes "No class has a method public static void main(String[] args).")
    ∷ []

-- the words at which Syntax stops
unfoldable pub words : List Row
words =
    row (codes "import" ∷ []) (codes "An import") true (codes "nothing, since what can be used needs no import")
    ∷ row (codes "package" ∷ []) (codes "A package") true (codes "nothing")
    ∷ row (codes "enum" ∷ []) (codes "An enum") true (codes "constants, as static final int RED = 0;")
    ∷ row (codes "record" ∷ []) (codes "A record") true (codes "a class with fields and a constructor")
    ∷ row (codes "sealed" ∷ []) (codes "A sealed type") true (codes "the same without sealed and permits")
    ∷ row (codes "switch" ∷ codes "case" ∷ []) (codes "A switch") true (codes "if and else if")
    ∷ row (codes "default" ∷ []) (codes "A default, of a switch or an interface,") true (codes "else, or an abstract class")
    ∷ row (codes "double" ∷ codes "float" ∷ []) (codes "A number with a fraction (double, float)") true (codes "whole numbers, as cents for euros")
    ∷ row (codes "assert" ∷ []) (codes "An assert") true (codes "if and throw")
    ∷ row (codes "synchronized" ∷ codes "volatile" ∷ []) (codes "A word for threads") true (codes "nothing, since a program here has one thread")
    ∷ row (codes "native" ∷ codes "strictfp" ∷ codes "transient" ∷ []) (codes "This keyword") true (codes "the same without it")
    ∷ row (codes "class" ∷ codes "interface" ∷ []) (codes "A class or interface inside another or in a method") true (codes "the same beside the others, in this file")
    ∷ row (codes "..." ∷ []) (codes "A list of arguments of any length") true (codes "an array, as int[] xs")
    ∷ row (codes "->" ∷ []) (codes "A lambda") true (codes "an interface, and a class that implements it")
    ∷ row (codes "::" ∷ []) (codes "A reference to a method") true (codes "an interface, and a class that implements it")
    ∷ row (codes "2147483648" ∷ codes "9223372036854775808L" ∷ []) (codes "A number as large as this, without a minus sign,") false (codes "an L behind it, up to 9223372036854775807L")
    ∷ row (codes "" ∷ []) (codes "An end of the text in the middle of a class") false (codes "a } for each { that is open")
    ∷ row (codes "public" ∷ codes "private" ∷ codes "protected" ∷ codes "static" ∷ codes "abstract" ∷ codes "void" ∷ []) (codes "A method or a field inside a method") false (codes "a } above it, if one is missing there")
    ∷ []

-- the names that are unknown
unfoldable pub names : List Row
names =
    row (codes "Scanner" ∷ codes "BufferedReader" ∷ codes "InputStreamReader" ∷ codes "Console" ∷ []) (codes "A Scanner or another reader") true (codes "System.in.read(), and the input by -i")
    ∷ row (codes "StringBuilder" ∷ codes "StringBuffer" ∷ codes "StringJoiner" ∷ []) (codes "A StringBuilder") true (codes "+ and += on a String")
    ∷ row (codes "Character" ∷ []) (codes "The class Character") true (codes "char, and comparisons as c >= '0' && c <= '9'")
    ∷ row (codes "Integer" ∷ codes "Long" ∷ codes "Double" ∷ codes "Float" ∷ codes "Short" ∷ codes "Byte" ∷ codes "Boolean" ∷ codes "Number" ∷ []) (codes "A class for numbers or booleans, as a type or for this method,") true (codes "int, long or boolean; Integer.parseInt and Integer.toString are there")
    ∷ row (codes "var" ∷ []) (codes "A variable without its type (var)") true (codes "the type")
    ∷ row (codes "List" ∷ codes "ArrayList" ∷ codes "LinkedList" ∷ codes "Set" ∷ codes "HashSet" ∷ codes "TreeSet" ∷ codes "Map" ∷ codes "HashMap" ∷ codes "TreeMap" ∷ codes "Collection" ∷ codes "Iterator" ∷ codes "Iterable" ∷ codes "Queue" ∷ codes "Deque" ∷ codes "ArrayDeque" ∷ codes "PriorityQueue" ∷ codes "Stack" ∷ codes "Vector" ∷ codes "Optional" ∷ codes "Stream" ∷ codes "IntStream" ∷ []) (codes "A collection") true (codes "an array, and a count beside it")
    ∷ row (codes "Arrays" ∷ codes "Collections" ∷ codes "Objects" ∷ codes "Collectors" ∷ []) (codes "A class with helpers, as Arrays,") true (codes "a loop")
    ∷ row (codes "Random" ∷ codes "ThreadLocalRandom" ∷ codes "SecureRandom" ∷ codes "UUID" ∷ []) (codes "A random number") true (codes "a number from the input")
    ∷ row (codes "Thread" ∷ codes "ExecutorService" ∷ codes "Executors" ∷ codes "TimeUnit" ∷ codes "AtomicInteger" ∷ codes "CompletableFuture" ∷ []) (codes "A thread") true (codes "nothing, since a program here has one thread")
    ∷ row (codes "Comparable" ∷ codes "Comparator" ∷ codes "Runnable" ∷ codes "Callable" ∷ codes "Function" ∷ codes "BiFunction" ∷ codes "Supplier" ∷ codes "Consumer" ∷ codes "Predicate" ∷ []) (codes "An interface of the library") true (codes "an interface of your own")
    ∷ row (codes "IOException" ∷ codes "FileNotFoundException" ∷ codes "InterruptedException" ∷ codes "InputMismatchException" ∷ codes "NoSuchElementException" ∷ codes "TimeoutException" ∷ codes "UncheckedIOException" ∷ []) (codes "An exception that needs an import") true (codes "Exception or RuntimeException")
    ∷ row (codes "BigInteger" ∷ codes "BigDecimal" ∷ codes "LocalDate" ∷ codes "LocalTime" ∷ codes "LocalDateTime" ∷ codes "Duration" ∷ codes "Instant" ∷ codes "DecimalFormat" ∷ codes "File" ∷ codes "Files" ∷ codes "Path" ∷ codes "Paths" ∷ codes "FileReader" ∷ codes "FileWriter" ∷ codes "PrintWriter" ∷ codes "PrintStream" ∷ []) (codes "A class that needs an import") true (codes "a class of your own, beside the others")
    ∷ row (codes "record" ∷ []) (codes "A record") true (codes "a class with fields and a constructor")
    ∷ row (codes "string" ∷ []) (codes "The word string") false (codes "String")
    ∷ row (codes "bool" ∷ []) (codes "The word bool") false (codes "boolean")
    ∷ row (codes "system" ∷ []) (codes "The word system") false (codes "System")
    ∷ []

-- the members that the library does not have here
unfoldable pub calls : List Row
calls =
    row (codes "printf" ∷ codes "format" ∷ codes "formatted" ∷ codes "join" ∷ []) (codes "Formatted text") true (codes "print, println and +")
    ∷ row (codes "contains" ∷ codes "indexOf" ∷ codes "lastIndexOf" ∷ codes "startsWith" ∷ codes "endsWith" ∷ codes "toUpperCase" ∷ codes "toLowerCase" ∷ codes "trim" ∷ codes "strip" ∷ codes "replace" ∷ codes "replaceAll" ∷ codes "split" ∷ codes "equalsIgnoreCase" ∷ codes "toCharArray" ∷ codes "chars" ∷ codes "repeat" ∷ codes "concat" ∷ codes "matches" ∷ codes "isBlank" ∷ codes "compareToIgnoreCase" ∷ []) (codes "This method of String") true (codes "a loop over charAt, with length() and substring")
    ∷ row (codes "hashCode" ∷ codes "getClass" ∷ codes "clone" ∷ codes "wait" ∷ codes "notify" ∷ []) (codes "This method of Object") true (codes "a method of your own")
    ∷ row (codes "random" ∷ []) (codes "A random number") true (codes "a number from the input")
    ∷ row (codes "sqrt" ∷ codes "pow" ∷ codes "cbrt" ∷ codes "floor" ∷ codes "ceil" ∷ codes "round" ∷ codes "floorMod" ∷ codes "floorDiv" ∷ codes "hypot" ∷ codes "exp" ∷ codes "log" ∷ codes "log10" ∷ codes "sin" ∷ codes "cos" ∷ codes "tan" ∷ codes "PI" ∷ codes "E" ∷ codes "addExact" ∷ codes "multiplyExact" ∷ codes "signum" ∷ []) (codes "This part of Math") true (codes "a loop; Math.abs, max and min are there")
    ∷ row (codes "exit" ∷ []) (codes "An end by System.exit") true (codes "return, or an exception")
    ∷ row (codes "currentTimeMillis" ∷ codes "nanoTime" ∷ []) (codes "The clock") true (codes "nothing, since a run here is the same each time")
    ∷ row (codes "arraycopy" ∷ []) (codes "A copy by System.arraycopy") true (codes "a loop")
    ∷ row (codes "err" ∷ []) (codes "The second output System.err") true (codes "System.out")
    ∷ row (codes "flush" ∷ codes "write" ∷ codes "append" ∷ []) (codes "This method of System.out") true (codes "print and println")
    ∷ row (codes "readLine" ∷ codes "available" ∷ codes "readAllBytes" ∷ []) (codes "This method of System.in") true (codes "System.in.read(), a byte at a time")
    ∷ row (codes "valueOf" ∷ codes "parseLong" ∷ codes "parseDouble" ∷ codes "compare" ∷ codes "toBinaryString" ∷ codes "toHexString" ∷ codes "intValue" ∷ codes "sum" ∷ codes "bitCount" ∷ []) (codes "This method of Integer, Long or String") true (codes "Integer.parseInt, Integer.toString, or String.valueOf of one value")
    ∷ row (codes "printStackTrace" ∷ codes "getCause" ∷ codes "getStackTrace" ∷ []) (codes "This method of an exception") true (codes "getMessage() and toString()")
    ∷ row (codes "length" ∷ []) (codes "A length() of an array, or a length without () of a String,") false (codes "xs.length for an array, s.length() for a String")
    ∷ row (codes "Println" ∷ codes "PrintLn" ∷ codes "printLn" ∷ codes "Print" ∷ []) (codes "A print or println with other capital letters") false (codes "System.out.println, with small letters")
    ∷ row (codes "Out" ∷ codes "In" ∷ []) (codes "A capital letter in System.out or System.in") false (codes "a small one")
    ∷ []

-- what no token begins with, by its sample
unfoldable pub bytes : List Row
bytes =
    row (codes "1.5" ∷ []) (codes "A number with a fraction, an exponent, d or f") true (codes "whole numbers, as cents for euros")
    ∷ row (codes "08" ∷ []) (codes "A number with a 0 in front and a digit 8 or 9") false (codes "the number without the 0")
    ∷ row (codes "99999999999" ∷ []) (codes "A whole number as large as this") false (codes "a number up to 2147483647, or with L up to 9223372036854775807L")
    ∷ row (codes "0x" ∷ []) (codes "A hexadecimal number that is too large or has other letters") false (codes "0x and up to 8 of 0 to 9 and A to F, or up to 16 and an L")
    ∷ row (codes "3px" ∷ []) (codes "A number with such letters, or with _ at its end,") false (codes "digits, or a name that begins with a letter")
    ∷ row (codes "''" ∷ []) (codes "A character literal without a character") false (codes "one character between the quotes, or \"\" for an empty String")
    ∷ row (codes "'" ∷ []) (codes "A character literal of several characters, or without its end,") false (codes "double quotes, for a String")
    ∷ row (codes "\"" ∷ []) (codes "A String without its \" on the line, or with an unknown escape,") false (codes "a \" on the same line, and \\\\ for a backslash")
    ∷ row (codes "\"\"\"" ∷ []) (codes "A text block") true (codes "Strings in double quotes, one a line, with + between them")
    ∷ row (codes "/*" ∷ []) (codes "A comment without its */") false (codes "*/ where it ends")
    ∷ row (codes "mark" ∷ []) (codes "A byte order mark at the start of the file") false (codes "the file saved as UTF-8 without one")
    ∷ row (codes "quotes" ∷ []) (codes "A curly quotation mark") false (codes "the straight one")
    ∷ row (codes "letter" ∷ []) (codes "A letter or sign outside ASCII, in no String, character or comment,") true (codes "a to z")
    ∷ row (codes "#" ∷ []) (codes "The sign #") false (codes "// for a comment")
    ∷ []

-- the forms at which Syntax stops
unfoldable pub forms : List Form
forms =
    form (codes ":" ∷ []) [] (codes "for" ∷ codes "(" ∷ []) [] (codes "A for over elements (for each)") true (codes "a counter, as for (int i = 0; i < xs.length; i++)")
    ∷ form (codes "|" ∷ []) [] (codes "catch" ∷ codes "(" ∷ []) [] (codes "A catch of several exceptions") true (codes "a catch for each")
    ∷ form (codes "{" ∷ []) (codes ")" ∷ []) (codes "new" ∷ codes "Name" ∷ codes "(" ∷ []) [] (codes "A class without a name") true (codes "a class with a name, beside the others")
    ∷ form (codes "{" ∷ []) (codes ")" ∷ []) [] [] (codes "A method with a body in an interface") true (codes "an abstract class, or the body in each class that implements it")
    ∷ form (codes "{" ∷ []) (codes "]" ∷ []) [] [] (codes "An array with a length and braces") false (codes "the length alone, or new int[] and the braces")
    ∷ form (codes "=" ∷ []) (codes "Name" ∷ []) [] [] (codes "A constant in an interface") true (codes "the constant in a class, as static final int MAX = 5;")
    ∷ form [] (codes "@" ∷ []) [] [] (codes "An annotation but @Override") true (codes "the same without it")
    ∷ form (codes "(" ∷ []) (codes "try" ∷ []) [] [] (codes "A try with resources") true (codes "try and finally")
    ∷ form (codes "name" ∷ []) (codes "Name" ∷ []) (codes "instanceof" ∷ codes "Name" ∷ []) [] (codes "A variable behind instanceof") true (codes "instanceof alone, and a cast below it")
    ∷ form (codes "\"" ∷ []) (codes "\"\"" ∷ []) [] [] (codes "A text block") true (codes "Strings in double quotes, one a line, with + between them")
    ∷ form (codes "(" ∷ []) [] (codes "record" ∷ codes "Name" ∷ []) [] (codes "A record") true (codes "a class with fields and a constructor")
    ∷ form (codes ")" ∷ codes "," ∷ []) [] [] (codes "->" ∷ []) (codes "A lambda") true (codes "an interface, and a class that implements it")
    ∷ form (codes "<" ∷ []) (codes "Name" ∷ codes "static" ∷ codes "public" ∷ codes "private" ∷ codes "protected" ∷ codes "final" ∷ codes "abstract" ∷ []) [] [] (codes "A type parameter in < and >") true (codes "the type that is meant; for a list an array, and a count beside it")
    ∷ form (codes "int" ∷ codes "long" ∷ codes "char" ∷ codes "boolean" ∷ codes "byte" ∷ codes "short" ∷ codes "?" ∷ []) (codes "<" ∷ []) [] [] (codes "A type parameter in < and >") true (codes "the type that is meant; for a list an array, and a count beside it")
    ∷ form [] [] (codes "Name" ∷ codes "<" ∷ codes "Name" ∷ []) [] (codes "A type parameter in < and >") true (codes "the type that is meant; for a list an array, and a count beside it")
    ∷ form [] [] (codes "java" ∷ codes "." ∷ codes "util" ∷ []) [] (codes "A class of java.util") true (codes "a class of your own; for a list an array, and a count beside it")
    ∷ []
